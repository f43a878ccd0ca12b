-- Nodes of value types, as names speak of them.
use Rattle.std.proofs.Common.{◌≡◌, ℕ, List, [], ◌∷◌, ◌++◌, false, Option, Some, None, refl, sym, ap, ◌∙◌, subst}
use Rattle.std.specs.Prelude.{All, not, is_some}
use Rattle.std.proofs.lemmas.List.Elements.{All-head}
use Rattle.wcv_core.specs.Names.{Name, number}
use Rattle.wcv_core.specs.declared.primitive.PrimitiveValType.{PrimitiveValType}
use Rattle.wcv_types.specs.Arena.{Arena}
use Rattle.wcv_types.specs.NamedBySet.{node_id}
use Rattle.wcv_types.specs.Standing.{Stands, StandsBefore}
use Rattle.wcv_types.specs.Tree.{Text, here, defined, node, Parts}
use Rattle.wcv_types.specs.Unfold.{rank, option_slot, slot_parts, slot_refs, reference, leaf_tree, former_of, defined_slots, parts_in, parts_of, tree_at, unfolded, place, trees}
use Rattle.wcv_types.specs.declared.arena.Node.TheVariants as n
use Rattle.wcv_types.specs.declared.ids.AliasableResourceId.{AliasableResourceId}
use Rattle.wcv_types.specs.declared.ids.ComponentDefinedTypeId.{ComponentDefinedTypeId}
use Rattle.wcv_types.specs.declared.ids.Part.{Part}
use Rattle.wcv_types.specs.declared.ids.Part.TheVariants as p
use Rattle.wcv_types.specs.declared.shapes.ComponentDefinedType.{ComponentDefinedType}
use Rattle.wcv_types.specs.declared.shapes.ComponentDefinedType.TheVariants as d
use Rattle.wcv_types.specs.declared.shapes.ComponentValType.{ComponentValType}
use Rattle.wcv_types.specs.declared.shapes.ComponentValType.TheVariants as v
use Rattle.wcv_names.specs.ResourceNames.{Resource_names, is_named_so}
use Rattle.wcv_names.specs.Rules as rules
use Rattle.wcv_names.specs.Shapes.{option_tree, OptionStands, IsShape, IsShapeOf, own_part, borrow_part, ok_part}

-- ## The node of a value type

some : {X : Type 0} {x y : X} → Some x ≡ Some y → x ≡ y
some e = cc e

pub node_there : (a : Arena) (o : Option ComponentValType) (i : ComponentDefinedTypeId) → OptionStands a o → node_id o ≡ Some i → Stands a (p.Defined i)
node_there a None i h e = cc e
node_there a (Some (v.Primitive q)) i h e = cc e
node_there a (Some (v.Ty j)) i h e = subst (λ (x : ComponentDefinedTypeId). Stands a (p.Defined x)) (some e) h

pub node_shape : (a : Arena) (o : Option ComponentValType) (i : ComponentDefinedTypeId) (s : ComponentDefinedType) → node_id o ≡ Some i → tree_at a (p.Defined i) ≡ unfolded a (place (p.Defined i)) (n.Defined s) → IsShape a o (Some s)
node_shape a None i s e h = cc e
node_shape a (Some (v.Primitive q)) i s e h = cc e
node_shape a (Some (v.Ty j)) i s e h = (i.index, ap (λ (x : ComponentDefinedTypeId). tree_at a (p.Defined x)) (some e) ∙ h)

all_stand : (a : Arena) (bound : ℕ) (qs : List Part) → All (StandsBefore a bound) qs → All (Stands a) qs
all_stand a bound qs h k x l = (h k x l).stands

pub node_stands : (a : Arena) (i : ComponentDefinedTypeId) (s : ComponentDefinedType) → All (StandsBefore a (rank (p.Defined i))) (parts_of (n.Defined s)) → IsShapeOf a (Some s)
node_stands a i s h = all_stand a (rank (p.Defined i)) (parts_of (n.Defined s)) h

-- ## What a result holds

first_stands : (a : Arena) (o : Option ComponentValType) (qs : List Part) → All (Stands a) (slot_refs (option_slot o) ++ qs) → OptionStands a o
first_stands a None qs h = tt
first_stands a (Some (v.Primitive q)) qs h = tt
first_stands a (Some (v.Ty i)) qs h = All-head (Stands a) (p.Defined i) qs h

pub ok_tree : (a : Arena) (o q : Option ComponentValType) (s : Option ComponentDefinedType) → IsShape a o s → ok_part s ≡ Some q → option_tree a q ≡ rules.if_ok (option_tree a o)
ok_tree a o q (Some (d.Result x e)) h k = ap (option_tree a) (sym (some k)) ∙ sym (ap rules.if_ok h.1)
ok_tree a o q _ h k = cc k

pub ok_stands : (a : Arena) (q : Option ComponentValType) (s : Option ComponentDefinedType) → IsShapeOf a s → ok_part s ≡ Some q → OptionStands a q
ok_stands a q (Some (d.Result x e)) h k = subst (OptionStands a) (some k) (first_stands a x (parts_in ((here, option_slot e) ∷ [])) h)
ok_stands a q _ h k = cc k

leaf : (a : Arena) (o : Option ComponentValType) → node_id o ≡ None → (l : Option PrimitiveValType) × (option_tree a o ≡ leaf_tree l)
leaf a None h = (None, refl)
leaf a (Some (v.Primitive q)) h = (Some q, refl)
leaf a (Some (v.Ty i)) h = cc h

leaf_ok : (l : Option PrimitiveValType) → leaf_tree l ≡ rules.if_ok (leaf_tree l)
leaf_ok None = refl
leaf_ok (Some q) = refl

node_ok : (k : ℕ) (s : ComponentDefinedType) (ps : Parts Name Name) → ok_part (Some s) ≡ None → node (defined (number k) (former_of s)) ps ≡ rules.if_ok (node (defined (number k) (former_of s)) ps)
node_ok k (d.Result x e) ps h = cc h
node_ok k _ ps h = refl

pub no_ok_tree : (a : Arena) (o : Option ComponentValType) (s : Option ComponentDefinedType) → IsShape a o s → ok_part s ≡ None → option_tree a o ≡ rules.if_ok (option_tree a o)
no_ok_tree a o None h k = let l = leaf a o h in l.1 ∙ leaf_ok l.0 ∙ sym (ap rules.if_ok l.1)
no_ok_tree a o (Some s) h k = h.1 ∙ node_ok h.0 s (slot_parts (trees a.nodes) (defined_slots s)) k ∙ sym (ap rules.if_ok h.1)

-- whether it is left out
pub left_out_is : (a : Arena) (o : Option ComponentValType) (s : Option ComponentDefinedType) → IsShape a o s → not (is_some o) ≡ rules.is_left_out (option_tree a o)
left_out_is a None s h = refl
left_out_is a (Some (v.Primitive q)) s h = refl
left_out_is a (Some (v.Ty i)) (Some s) h = sym (ap rules.is_left_out h.1)
left_out_is a (Some (v.Ty i)) None h = cc h

-- ## Handles

pub own_tree : (a : Arena) (o : Option ComponentValType) (s : Option ComponentDefinedType) (ns : Resource_names) (r : Text) (id : AliasableResourceId) → IsShape a o s → own_part s ≡ Some id → is_named_so ns r (reference id) ≡ rules.is_own ns r (option_tree a o)
own_tree a o (Some (d.Own x)) ns r id h k = ap (λ (y : AliasableResourceId). is_named_so ns r (reference y)) (sym (some k)) ∙ sym (ap (rules.is_own ns r) h.1)
own_tree a o _ ns r id h k = cc k

leaf_own : (ns : Resource_names) (r : Text) (l : Option PrimitiveValType) → false ≡ rules.is_own ns r (leaf_tree l)
leaf_own ns r None = refl
leaf_own ns r (Some q) = refl

node_own : (ns : Resource_names) (r : Text) (k : ℕ) (s : ComponentDefinedType) (ps : Parts Name Name) → own_part (Some s) ≡ None → false ≡ rules.is_own ns r (node (defined (number k) (former_of s)) ps)
node_own ns r k (d.Own x) ps h = cc h
node_own ns r k _ ps h = refl

pub no_own_tree : (a : Arena) (o : Option ComponentValType) (s : Option ComponentDefinedType) (ns : Resource_names) (r : Text) → IsShape a o s → own_part s ≡ None → false ≡ rules.is_own ns r (option_tree a o)
no_own_tree a o None ns r h k = let l = leaf a o h in leaf_own ns r l.0 ∙ sym (ap (rules.is_own ns r) l.1)
no_own_tree a o (Some s) ns r h k = node_own ns r h.0 s (slot_parts (trees a.nodes) (defined_slots s)) k ∙ sym (ap (rules.is_own ns r) h.1)

pub borrow_tree : (a : Arena) (o : Option ComponentValType) (s : Option ComponentDefinedType) (ns : Resource_names) (r : Text) (id : AliasableResourceId) → IsShape a o s → borrow_part s ≡ Some id → is_named_so ns r (reference id) ≡ rules.is_borrow ns r (option_tree a o)
borrow_tree a o (Some (d.Borrow x)) ns r id h k = ap (λ (y : AliasableResourceId). is_named_so ns r (reference y)) (sym (some k)) ∙ sym (ap (rules.is_borrow ns r) h.1)
borrow_tree a o _ ns r id h k = cc k

leaf_borrow : (ns : Resource_names) (r : Text) (l : Option PrimitiveValType) → false ≡ rules.is_borrow ns r (leaf_tree l)
leaf_borrow ns r None = refl
leaf_borrow ns r (Some q) = refl

node_borrow : (ns : Resource_names) (r : Text) (k : ℕ) (s : ComponentDefinedType) (ps : Parts Name Name) → borrow_part (Some s) ≡ None → false ≡ rules.is_borrow ns r (node (defined (number k) (former_of s)) ps)
node_borrow ns r k (d.Borrow x) ps h = cc h
node_borrow ns r k _ ps h = refl

pub no_borrow_tree : (a : Arena) (o : Option ComponentValType) (s : Option ComponentDefinedType) (ns : Resource_names) (r : Text) → IsShape a o s → borrow_part s ≡ None → false ≡ rules.is_borrow ns r (option_tree a o)
no_borrow_tree a o None ns r h k = let l = leaf a o h in leaf_borrow ns r l.0 ∙ sym (ap (rules.is_borrow ns r) l.1)
no_borrow_tree a o (Some s) ns r h k = node_borrow ns r h.0 s (slot_parts (trees a.nodes) (defined_slots s)) k ∙ sym (ap (rules.is_borrow ns r) h.1)
