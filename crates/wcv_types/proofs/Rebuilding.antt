-- Nodes that are made again with other parts.
use Rattle.std.proofs.Common.{◌≡◌, ℕ, suc, List, [], ◌∷◌, ◌++◌, length, refl, sym, ◌∙◌, ap, subst, arith, length-append, append_assoc, true, Some}
use Rattle.std.specs.Prelude.{Option, All, slice_get}
use Rattle.wcv_core.specs.Names.{Name, number}
use Rattle.wcv_types.specs.Tree.{Text, here, label, Head, defined, node, head}
use Rattle.wcv_types.specs.Arena.{Arena}
use Rattle.wcv_types.specs.Standing.{Stands, Extends, with_node}
use Rattle.wcv_types.specs.Unfold.{Type_tree, Slot, leaf, at, both, core, Slots, rank, head_of, slots_of, slots_at, slots_if, slot_parts, parts_in, former_of, defined_slots, handle_parts, value_parts, value_slots, option_slot, value_slot, field_slots, trees, tree_at, unfolded}
use Rattle.wcv_types.specs.Rebuild.{SameSorts, same_sort, FillsSlot, Fills, refill_slot, after_slot, refill, after, anew, slots_by, field_value, given_types, MadeAgain}
use Rattle.wcv_types.specs.declared.arena.Node.{Node}
use Rattle.wcv_types.specs.declared.arena.Node.TheVariants as n
use Rattle.wcv_types.specs.declared.ids.ComponentFuncTypeId.{ComponentFuncTypeId}
use Rattle.wcv_types.specs.declared.ids.ComponentDefinedTypeId.{ComponentDefinedTypeId}
use Rattle.wcv_types.specs.declared.ids.Part.{Part}
use Rattle.wcv_types.specs.declared.ids.Part.TheVariants as p
use Rattle.wcv_types.specs.declared.shapes.ComponentDefinedType.{ComponentDefinedType}
use Rattle.wcv_types.specs.declared.shapes.ComponentDefinedType.TheVariants as d
use Rattle.wcv_types.specs.declared.shapes.ComponentFuncType.{ComponentFuncType}
use Rattle.wcv_types.specs.declared.shapes.ComponentValType.{ComponentValType}
use Rattle.wcv_types.proofs.Grown.{extends_push, push_keeps, tree_at_last, length-trees}

-- ## Parts of the same sorts

-- they fill the slots
pub fills_sorts : (ss : Slots) (qs : List Part) → SameSorts (parts_in ss) qs → Fills ss qs
fills_sorts [] qs h = tt
fills_sorts ((k, leaf o) ∷ ss) qs h = (tt, fills_sorts ss qs h)
fills_sorts ((k, core e) ∷ ss) qs h = (tt, fills_sorts ss qs h)
fills_sorts ((k, at q) ∷ ss) [] h = absurd h
fills_sorts ((k, at q) ∷ ss) (r ∷ rs) h = (h.0, fills_sorts ss rs h.1)
fills_sorts ((k, both c d) ∷ ss) [] h = absurd h
fills_sorts ((k, both c d) ∷ ss) (q ∷ []) h = absurd h.1
fills_sorts ((k, both c d) ∷ ss) (q ∷ r ∷ rs) h = ((h.0, h.1.0), fills_sorts ss rs h.1.1)

-- and are the parts from then on
pub parts_refilled : (ss : Slots) (qs : List Part) → SameSorts (parts_in ss) qs → parts_in (refill ss qs) ≡ qs
parts_refilled [] [] h = refl
parts_refilled [] (r ∷ rs) h = absurd h
parts_refilled ((k, leaf o) ∷ ss) qs h = parts_refilled ss qs h
parts_refilled ((k, core e) ∷ ss) qs h = parts_refilled ss qs h
parts_refilled ((k, at q) ∷ ss) [] h = absurd h
parts_refilled ((k, at q) ∷ ss) (r ∷ rs) h = ap (λ (xs : List Part). r ∷ xs) (parts_refilled ss rs h.1)
parts_refilled ((k, both c d) ∷ ss) [] h = absurd h
parts_refilled ((k, both c d) ∷ ss) (q ∷ []) h = absurd h.1
parts_refilled ((k, both c d) ∷ ss) (q ∷ r ∷ rs) h = ap (λ (xs : List Part). q ∷ r ∷ xs) (parts_refilled ss rs h.1.1)

pub refilled_stand : (a : Arena) (ss ts : Slots) (qs : List Part) → SameSorts (parts_in ss) qs → All (Stands a) qs → ts ≡ refill ss qs → All (Stands a) (parts_in ts)
refilled_stand a ss ts qs h s e = subst (λ xs. All (Stands a) (parts_in xs)) (sym e) (subst (All (Stands a)) (sym (parts_refilled ss qs h)) s)

-- ## One list of slots after another

pub fills_both : (xs ys : Slots) (qs : List Part) → Fills (xs ++ ys) qs → Fills xs qs × Fills ys (after xs qs)
fills_both [] ys qs f = (tt, f)
fills_both (x ∷ xs) ys qs f =
    let w = fills_both xs ys (after_slot x.1 qs) f.1 in
    ((f.0, w.0), w.1)

pub refill_both : (xs ys : Slots) (qs : List Part) → refill (xs ++ ys) qs ≡ refill xs qs ++ refill ys (after xs qs)
refill_both [] ys qs = refl
refill_both (x ∷ xs) ys qs = ap (λ (zs : Slots). (x.0, refill_slot x.1 qs) ∷ zs) (refill_both xs ys (after_slot x.1 qs))

-- ## Defined types

pub defined_parts : (s : ComponentDefinedType) → parts_in (defined_slots s) ≡ handle_parts s ++ parts_in (value_slots (value_parts s))
defined_parts (d.Own r) = refl
defined_parts x = refl

-- its parts behind others
pub defined_parts_after : (ps qs rs : List Part) (s : ComponentDefinedType) → qs ≡ ps ++ handle_parts s → rs ≡ qs ++ parts_in (value_slots (value_parts s)) → rs ≡ ps ++ parts_in (defined_slots s)
defined_parts_after ps qs rs s e f =
    f ∙ ap (λ (qs : List Part). qs ++ parts_in (value_slots (value_parts s))) e ∙ append_assoc ps (handle_parts s) (parts_in (value_slots (value_parts s))) ∙
    ap (λ (ks : List Part). ps ++ ks) (sym (defined_parts s))

-- ## Functions

abbrev Fields : Type 0
Fields = List (Text × ComponentValType)

fields_then : (fs : Fields) (rest : Slots) → field_slots fs rest ≡ slots_by field_value fs ++ rest
fields_then [] rest = refl
fields_then (f ∷ fs) rest = ap (λ (ss : Slots). (label f.0, value_slot f.1) ∷ ss) (fields_then fs rest)

module _ (fs : Fields) (o : Option ComponentValType) (qs : List Part) where
  abbrev slots : Slots
  slots = field_slots fs ((here, option_slot o) ∷ [])

  both_fill : SameSorts (parts_in slots) qs → Fills (slots_by field_value fs) qs × Fills ((here, option_slot o) ∷ []) (after (slots_by field_value fs) qs)
  both_fill h = fills_both (slots_by field_value fs) ((here, option_slot o) ∷ []) qs (subst (λ ss. Fills ss qs) (fields_then fs ((here, option_slot o) ∷ [])) (fills_sorts slots qs h))

  pub params_fill : SameSorts (parts_in slots) qs → Fills (slots_by field_value fs) qs
  params_fill h = (both_fill h).0

  pub result_fills : (left : List Part) → left ≡ after (slots_by field_value fs) qs → SameSorts (parts_in slots) qs → FillsSlot (option_slot o) left
  result_fills left e h = subst (FillsSlot (option_slot o)) (sym e) (both_fill h).1.0

  pub func_refilled : (gs : Fields) (o' : Option ComponentValType) (left : List Part) → slots_by field_value gs ≡ refill (slots_by field_value fs) qs → left ≡ after (slots_by field_value fs) qs →
      option_slot o' ≡ refill_slot (option_slot o) left → field_slots gs ((here, option_slot o') ∷ []) ≡ refill slots qs
  func_refilled gs o' left e l s =
      fields_then gs ((here, option_slot o') ∷ []) ∙ ap (λ (ss : Slots). ss ++ (here, option_slot o') ∷ []) e ∙
      ap (λ (x : Slot). refill (slots_by field_value fs) qs ++ (here, x) ∷ []) (s ∙ ap (refill_slot (option_slot o)) l) ∙
      sym (refill_both (slots_by field_value fs) ((here, option_slot o) ∷ []) qs) ∙ ap (λ ss. refill ss qs) (sym (fields_then fs ((here, option_slot o) ∷ [])))

-- ## The new node

-- it is behind all others, and has these slots and that head
pub made_again : (a b : Arena) (q made : Part) (qs : List Part) (y : Node) → b ≡ with_node a y → rank made ≡ suc (length a.nodes) → Stands b made → same_sort q made ≡ true →
    slots_of y ≡ refill (slots_at a.nodes q) qs → head_of (length a.nodes) y ≡ anew (number (length a.nodes)) (head (tree_at a q)) → given_types b made ≡ given_types a q → MadeAgain a b q qs made
made_again a b q made qs y e last s sort slots h types = record {
  nodes = ap (λ (c : Arena). length c.nodes) e ∙ length-append a.nodes (y ∷ []) ∙ omega arith;
  resources = ap (λ (c : Arena). c.resources) e;
  stamps = ap (λ (c : Arena). c.stamps) e;
  core = ap (λ (c : Arena). c.core) e;
  grown = subst (λ (c : Arena). Extends a c) (sym e) (extends_push a y);
  stay = push_keeps a b y e;
  stands = s;
  of_sort = sort;
  last = last;
  tree = tree_at_last a b y made e last ∙ ap (λ (k : ℕ). node (head_of k y) (slot_parts (trees a.nodes) (slots_of y))) (length-trees a.nodes) ∙
      ap (λ (z : Head Name Name). node z (slot_parts (trees a.nodes) (slots_of y))) h ∙
      ap (λ (ss : Slots). node (anew (number (length a.nodes)) (head (tree_at a q))) (slot_parts (trees a.nodes) ss)) slots;
  types = types;
}

pub func_made : (a b : Arena) (i made : ComponentFuncTypeId) (s t : ComponentFuncType) (qs : List Part) → slice_get a.nodes i.index ≡ Some (n.Func s) → tree_at a (p.Func i) ≡ unfolded a i.index (n.Func s) →
    slots_of (n.Func t) ≡ refill (slots_of (n.Func s)) qs → t.async_ ≡ s.async_ → b ≡ with_node a (n.Func t) → rank (p.Func made) ≡ suc (length a.nodes) → Stands b (p.Func made) → MadeAgain a b (p.Func i) qs (p.Func made)
func_made a b i made s t qs found tree slots mark e last st =
    made_again a b (p.Func i) (p.Func made) qs (n.Func t) e last st refl (slots ∙ ap (λ x. refill (slots_if x) qs) (sym found))
    (ap (λ x. head_of (length a.nodes) (n.Func (record t { async_ = x }))) mark ∙ ap (λ (z : Type_tree). anew (number (length a.nodes)) (head z)) (sym tree)) refl

pub defined_made : (a b : Arena) (i made : ComponentDefinedTypeId) (s t : ComponentDefinedType) (qs : List Part) → slice_get a.nodes i.index ≡ Some (n.Defined s) → tree_at a (p.Defined i) ≡ unfolded a i.index (n.Defined s) →
    defined_slots t ≡ refill (defined_slots s) qs → former_of t ≡ former_of s → b ≡ with_node a (n.Defined t) → rank (p.Defined made) ≡ suc (length a.nodes) → Stands b (p.Defined made) → MadeAgain a b (p.Defined i) qs (p.Defined made)
defined_made a b i made s t qs found tree slots form e last st =
    made_again a b (p.Defined i) (p.Defined made) qs (n.Defined t) e last st refl (slots ∙ ap (λ x. refill (slots_if x) qs) (sym found))
    (ap (λ k. defined (number (length a.nodes)) k) form ∙ ap (λ (z : Type_tree). anew (number (length a.nodes)) (head z)) (sym tree)) refl
