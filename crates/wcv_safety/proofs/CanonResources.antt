-- Resources that a component defines with a representation: their tokens have that too.
use Rattle.std.proofs.Common.{◌≡◌, ◌∙◌, ℕ, [], ◌∷◌, Bool, true, false, not, ◌&&◌, ◌||◌, Option, Some, None, refl, sym, ap, subst}
use Rattle.std.specs.Prelude.{Contains}
use Rattle.std.specs.Map.{lookup}
use Rattle.std.specs.Option.{option_and_then}
use Rattle.std.proofs.lemmas.Map.Views.{Contains-from_lookup}
use Rattle.wcv_core.specs.Checks.{is_none}
use Rattle.wcv_core.specs.CoreJoining.{is_free}
use Rattle.wcv_core.specs.Names.{Name, same}
use Rattle.wcv_core.specs.declared.core_types.ValType.{ValType}
use Rattle.wcv_core.specs.declared.error.ErrorKind.TheVariants as error
use Rattle.wcv_core.proofs.Names.{same-true}
use Rattle.wcv_types.specs.Resources as resources
use Rattle.wcv_types.specs.Resources.{owns}
use Rattle.wcv_types.specs.Seen.{Within, outer, seen, seen_parts}
use Rattle.wcv_types.specs.Tree.{nothing, primitive, resource, defined, func, instance, component, type_entity, core_module, core_instance, core_type, core_item, Tree, node, Parts, none, part, is_resource, sort, parts}
use Rattle.wcv_types.specs.Unfold.{Type_tree}
use Rattle.wcv_matching.specs.Matching.{outside}
use Rattle.wcv_matching.specs.ModuleItems.{ItemsMatch}
use Rattle.wcv_flat.specs.Rows as row
use Rattle.wcv_lower.specs.Canons.{rep_among, local_rep, is_abroad, ask_found}
use Rattle.wcv_lower.specs.Context.{type_at}
use Rattle.wcv_lower.specs.CoreInstances.{test_found}
use Rattle.wcv_lower.specs.Trees.{Tree_stack, tree_reader}
use Rattle.wcv_lower.specs.Values.{sort_checks}
use Rattle.wcv_lower.proofs.Joinable.{told_free}
use Rattle.wcv_lower.proofs.ValueLaws.{found_of}
use Rattle.wcv_growth.proofs.Known.{then-some}
use Rattle.wcv_growth.proofs.Looking.{sorted-here}
use Rattle.wcv_world.specs.Growth.{Tokens}
use Rattle.wcv_world.specs.Reading.{Value_stack, value_reader}
use Rattle.wcv_world.specs.Values.{Value, type_over}
use Rattle.wcv_safety.specs.Agreeing.{AgreeReadings}
use Rattle.wcv_safety.specs.Standing.{BothStand, RepresentedOnce, ResourcesAlone}
use Rattle.wcv_safety.proofs.CanonOperands.{sort-there}
use Rattle.wcv_safety.proofs.Found.{sorted-found}
use Rattle.wcv_safety.proofs.Groups.{free-left, free-right, free-both}
use Rattle.wcv_safety.proofs.Results.{alike-sort}
use Rattle.wcv_safety.proofs.Types.{seen-alike, resource-sort}

-- ## References

resource-node : (t : Type_tree) → sort t ≡ is_resource → (q i : Name) × (ps : Parts Name Name) × (t ≡ node (resource q i) ps)
resource-node (node (resource q i) ps) e = (q, i, ps, refl)
resource-node (node nothing ps) e = absurd (cc)
resource-node (node (primitive p) ps) e = absurd (cc)
resource-node (node (defined i k) ps) e = absurd (cc)
resource-node (node (func i b) ps) e = absurd (cc)
resource-node (node (instance i own) ps) e = absurd (cc)
resource-node (node (component i ins outs) ps) e = absurd (cc)
resource-node (node type_entity ps) e = absurd (cc)
resource-node (node (core_module i n) ps) e = absurd (cc)
resource-node (node (core_instance i n) ps) e = absurd (cc)
resource-node (node (core_type i) ps) e = absurd (cc)
resource-node (node (core_item x) ps) e = absurd (cc)

none-seen : {A : Type 0} (f : Name → Within A) (ps : Parts Name Name) → seen_parts f ps ≡ none → ps ≡ none
none-seen f none e = refl
none-seen f (part r t ps) e = cc

-- the resource of outside that it refers to
abbrev referred : Name → Tree (Within Name) (Unit {0}) → Name
referred d (node (resource (outer r) s) ps) = r
referred d _ = d

free-same : (z q i : Name) → resources.is_free z (node (resource q i) none) ≡ same z q
free-same z q i = go (same z q) (not (owns {I = Name} (resource q i) z))
  where
    go : (b c : Bool) → (b || (c && false)) ≡ b
    go true c = refl
    go false true = refl
    go false false = refl

-- a reference alone finds its resource
rep-alone : (ds : Tokens) (q i : Name) → rep_among tree_reader ds (node (resource q i) none) ≡ option_and_then (λ v. v) (lookup (λ z. same z q) ds)
rep-alone ds q i = λ j. option_and_then (λ v. v) (lookup (λ z. free-same z q i j) ds)

known-there : (o : Option ValType) → (not (is_none o) && true) ≡ true → (w : ValType) × (o ≡ Some w)
known-there None e = cc
known-there (Some w) e = (w, refl)

module _ (g : Name → Name) (v : Value_stack) (s : Tree_stack) (h : BothStand v s) (a : AgreeReadings g v s) (once : RepresentedOnce v.top.defined) (bare : ResourcesAlone s.top) where
  rep-agrees : (y t : Type_tree) → sort t ≡ is_resource → parts t ≡ none → seen (outside (λ r. r)) y ≡ seen (outside g) t → (w : ValType) → rep_among tree_reader s.top.defined t ≡ Some w → rep_among tree_reader v.top.defined y ≡ Some w
  rep-agrees y t l p e w f =
      let m = resource-node t l in
      let n = resource-node y (alike-sort (outside (λ r. r)) (outside g) y t e ∙ l) in
      let empty : m.2 ≡ none = sym (ap parts m.3) ∙ p in
      let alone : t ≡ node (resource m.0 m.1) none = m.3 ∙ ap (λ (ps : Parts Name Name). node (resource m.0 m.1) ps) empty in
      let both : seen (outside (λ r. r)) (node (resource n.0 n.1) n.2) ≡ seen (outside g) (node (resource m.0 m.1) none) = sym (ap (seen (outside (λ r. r))) n.3) ∙ e ∙ ap (seen (outside g)) alone in
      let name : n.0 ≡ g m.0 = ap (referred n.0) both in
      let beside : n.2 ≡ none = none-seen _ n.2 (ap parts both) in
      let over : y ≡ node (resource n.0 n.1) none = n.3 ∙ ap (λ (ps : Parts Name Name). node (resource n.0 n.1) ps) beside in
      let found = then-some (λ (v : Option ValType). v) (lookup (λ z. same z m.0) s.top.defined) w (sym (rep-alone s.top.defined m.0 m.1) ∙ sym (ap (rep_among tree_reader s.top.defined) alone) ∙ f) in
      let there : Contains s.top.defined (m.0, Some w) = Contains-from_lookup {eq = λ r z. same z r} (λ r z k. sym (same-true z r k)) m.0 (Some w) s.top.defined (found.1 ∙ ap Some found.2) in
      ap (rep_among tree_reader v.top.defined) over ∙ rep-alone v.top.defined n.0 n.1 ∙ ap (λ (r : Name). option_and_then (λ v. v) (lookup (λ z. same z r) v.top.defined)) name ∙ ap (option_and_then (λ (v : Option ValType). v)) (once (g m.0) w (a.stacks.all.0.defined m.0 w there))

  pub local-agrees : (k : ℕ) → is_free (ask_found s (row.local_resource_at k)) ≡ true → (is_free (ask_found v (row.local_resource_at k)) ≡ true) × (local_rep v.top k ≡ local_rep s.top k)
  local-agrees k e =
      let sorted : is_free (sort_checks is_resource s.top k) ≡ true = free-left (sort_checks is_resource s.top k) ((error.ResourceScope, is_abroad s.top k) ∷ []) e in
      let t = found_of tree_reader is_resource (type_at s.top k) (told_free (sort_checks is_resource s.top k) sorted) in
      let x = sorted-found v.groups v.top.defined g v.top s.top a.stacks.all.0 h.types is_resource k t.0 t.1 in
      let l : sort t.0 ≡ is_resource = resource-sort (sort t.0) (sorted-here is_resource (type_at s.top k) t.0 t.1).1 in
      let near : (not (is_none (rep_among tree_reader s.top.defined t.0)) && true) ≡ true =
      subst (λ (o : Option Type_tree). is_free ((error.ResourceScope, test_found (λ (y : Type_tree). is_none (rep_among tree_reader s.top.defined y)) o) ∷ []) ≡ true) t.1 (free-right (sort_checks is_resource s.top k) ((error.ResourceScope, is_abroad s.top k) ∷ []) e) in
      let w = known-there (rep_among tree_reader s.top.defined t.0) near in
      let alike = seen-alike (ItemsMatch v.groups) {A = Name} (λ r. r) g (type_over x.0) t.0 is_resource (λ d m. m) l x.2 in
      let r : rep_among value_reader v.top.defined x.0 ≡ Some w.0 = rep-agrees (type_over x.0) t.0 l (bare k t.0 t.1) alike w.0 w.1 in (
        free-both (sort_checks is_resource v.top k) ((error.ResourceScope, is_abroad v.top k) ∷ []) (sort-there g v s h a is_resource k sorted)
            (ap (λ (o : Option Value). is_free ((error.ResourceScope, test_found (λ (y : Value). is_none (rep_among value_reader v.top.defined y)) o) ∷ [])) x.1 ∙ ap (λ (o : Option ValType). not (is_none o) && true) r),
        ap (option_and_then (rep_among value_reader v.top.defined)) x.1 ∙ r ∙ sym w.1 ∙ sym (ap (option_and_then (rep_among tree_reader s.top.defined)) t.1),
      )
