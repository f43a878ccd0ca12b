-- What is found in a context by an index, and what is made of it: what is free in it is listed, and it is sound.
use Rattle.std.proofs.Common.{◌≡◌, ℕ, [], ◌∷◌, Bool, true, false, cond, refl, sym, subst, Some, None, inl, inr}
use Rattle.std.specs.Prelude.{slice_get, Option}
use Rattle.std.specs.Option.{option_and_then}
use Rattle.wcv_core.specs.Names.{Name, Place, base}
use Rattle.wcv_syntax.specs.Model.{Type_form, component_type, defined_type, func_type, instance_type, resource_type}
use Rattle.wcv_syntax.specs.declared.component_type.ComponentValType.{ComponentValType}
use Rattle.wcv_syntax.specs.declared.component_type.ComponentValType.TheVariants as val
use Rattle.wcv_types.specs.Tree.{Role, primitive, Sort, is_value, is_resource, is_module, sort, defined, func, node, Parts, none, part, here, nothing, type_of}
use Rattle.wcv_types.proofs.Lists.{some-inj}
use Rattle.wcv_lower.specs.Checks.{same_sort}
use Rattle.wcv_lower.specs.Context.{in_types, core_types}
use Rattle.wcv_lower.specs.Defined.{made_of, former, handle_index, written_parts}
use Rattle.wcv_lower.specs.Entries.{module_type_at}
use Rattle.wcv_lower.specs.Names.{Names, names_by_place}
use Rattle.wcv_lower.specs.NewTypes.{renewed, new_reference}
use Rattle.wcv_lower.specs.Owned.{AllEntries}
use Rattle.wcv_lower.specs.Readers.{Made_parts, New_node, func_node, defined_node, if_sort}
use Rattle.wcv_lower.specs.Trees.{Type_tree, type_entry, referenced, Tree_context, tree_reader, tree_parts, node_tree}
use Rattle.wcv_lower.specs.Types.{func_parts, type_made}
use Rattle.wcv_lower.specs.Values.{type_at, type_of_sort, resource_at, value_entry, Written_parts, option_entry, behind, parts_entries}
use Rattle.wcv_growth.proofs.Known.{mapped-some, then-some, all-get, Within, WithinParts, Fine, node-within, both-within, referenced-within}
use Rattle.wcv_growth.proofs.Sound.{AreSound, nothing-sound, both-sound, referenced-sound, renewed-sound}

-- what has a sort is there, and has it
pub sorted-here : (s : Sort) (o : Option Type_tree) (t : Type_tree) → option_and_then (if_sort tree_reader s) o ≡ Some t → (o ≡ Some t) × (same_sort s (sort t) ≡ true)
sorted-here s None t e = cc
sorted-here s (Some u) t e = go (same_sort s (sort u)) refl e
  where
    go : (b : Bool) → same_sort s (sort u) ≡ b → cond b (Some u) None ≡ Some t → (Some u ≡ Some t) × (same_sort s (sort t) ≡ true)
    go true f e = (e, subst (λ (x : Type_tree). same_sort s (sort x) ≡ true) (some-inj e) f)
    go false f e = cc

module _ (P : Name → Type 0) where
  renewed-within : (names : Names) (p : Place) (t : Type_tree) → Within P t → Within P (renewed names p t)
  renewed-within names p (node nothing ps) w r x = w r x
  renewed-within names p (node h ps) w r x = w r x

  -- an entry that refers to the type creates it again
  pub again-fine : (names : Names) (p : Place) (t : Type_tree) → Fine P t → Fine P (type_of (renewed names p t) t)
  again-fine names p t w = (both-within P (renewed names p t) t (renewed-within names p t w.0) w.0, both-sound (renewed names p t) t (renewed-sound names p t w.1) w.1)

  pub entry-fine : (t : Type_tree) → Fine P t → Fine P (type_entry t)
  entry-fine t w = (both-within P t t w.0 w.0, both-sound t t w.1 w.1)

  pub reference-fine : (p : Place) → P (base p) → Fine P (type_entry (new_reference names_by_place p))
  reference-fine p w = entry-fine (new_reference names_by_place p) (refers, ((tt, tt), tt))
    where
      refers : Within P (new_reference names_by_place p)
      refers r (inl e) = subst P (sym e) w
      refers r (inr x) = absurd x.1

-- parts in which what is free has the property, and that are sound
abbrev FineParts : (Name → Type 0) → Parts Name Name → Type 0
FineParts P ps = WithinParts P ps × AreSound ps

module _ (P : Name → Type 0) (c : Tree_context) (h : AllEntries (Fine P) c) where
  pub type-fine : (k : ℕ) (t : Type_tree) → type_at c k ≡ Some t → Fine P t
  type-fine k t e =
      let m = mapped-some referenced (slice_get (c.space in_types) k) t e in
      let w = all-get (Fine P) (c.space in_types) k m.0 (h.space in_types) m.1 in
      subst (Fine P) m.2 (referenced-within P m.0 w.0, referenced-sound m.0 w.1)

  pub sorted-fine : (s : Sort) (k : ℕ) (t : Type_tree) → type_of_sort s c k ≡ Some t → Fine P t
  sorted-fine s k t e = type-fine k t (sorted-here s (type_at c k) t e).0

  pub sorted-sort : (s : Sort) (k : ℕ) (t : Type_tree) → type_of_sort s c k ≡ Some t → same_sort s (sort t) ≡ true
  sorted-sort s k t e = (sorted-here s (type_at c k) t e).1

  pub module-fine : (k : ℕ) (t : Type_tree) → module_type_at c k ≡ Some t → Fine P t
  module-fine k t e = all-get (Fine P) (c.core core_types) k t (h.core core_types) (sorted-here is_module (slice_get (c.core core_types) k) t e).0

  -- ## Parts

  no-parts : FineParts P none
  no-parts = ((λ r x. absurd x), tt)

  pub value-fine : (v : ComponentValType) (t : Type_tree) → value_entry c v ≡ Some t → Fine P t
  value-fine (val.Primitive p) t e = subst (Fine P) (some-inj e) (node-within P (primitive p) none (λ r x. x) no-parts.0, ((tt, tt), tt))
  value-fine (val.Ty k) t e = sorted-fine is_value k t e

  option-fine : (o : Option ComponentValType) (t : Type_tree) → option_entry c o ≡ Some t → Fine P t
  option-fine None t e = subst (Fine P) (some-inj e) (node-within P nothing none (λ r x. x) no-parts.0, nothing-sound)
  option-fine (Some v) t e = value-fine v t e

  one-more : (o : Role) (t : Type_tree) (ps : Parts Name Name) → Fine P t → FineParts P ps → FineParts P (part o t ps)
  one-more o t ps w v = (within, (w.1, v.1))
    where
      within : WithinParts P (part o t ps)
      within r (inl x) = w.0 r x
      within r (inr x) = v.0 r x

  -- the parts of what is made
  abbrev MadeFine : Made_parts tree_reader → Type 0
  MadeFine qs = FineParts P (tree_parts qs)

  parts-fine : (ps : Written_parts) (qs : Made_parts tree_reader) → parts_entries c ps ≡ Some qs → MadeFine qs
  parts-fine [] qs e = subst MadeFine (some-inj e) no-parts
  parts-fine (p ∷ ps) qs e =
      let m = then-some (behind tree_reader p.0 (parts_entries c ps)) (option_entry c p.1) qs e in
      let n = mapped-some (λ (rest : Made_parts tree_reader). (p.0, m.0) ∷ rest) (parts_entries c ps) qs m.2 in
      subst MadeFine n.2 (one-more p.0 m.0 (tree_parts n.0) (option-fine p.1 m.0 m.1) (parts-fine ps n.0 n.1))

  made-fine : (o : Option ℕ) (ps : Written_parts) (qs : Made_parts tree_reader) → made_of c o ps ≡ Some qs → MadeFine qs
  made-fine None ps qs e = parts-fine ps qs e
  made-fine (Some k) ps qs e =
      let m = mapped-some (λ (t : Type_tree). (here, t) ∷ []) (resource_at c k) qs e in
      subst MadeFine m.2 (one-more here m.0 none (sorted-fine is_resource k m.0 m.1) no-parts)

  -- ## The node that a type item makes

  pub node-fine : (i : Name) (t : Type_form) (n : New_node tree_reader) → type_made c t ≡ Some n → Fine P (node_tree i n)
  node-fine i (defined_type d) n e =
      let m = mapped-some (λ (ps : Made_parts tree_reader). defined_node (former d) ps) (made_of c (handle_index d) (written_parts d)) n e in
      let w : MadeFine m.0 = made-fine (handle_index d) (written_parts d) m.0 m.1 in
      subst (λ (x : New_node tree_reader). Fine P (node_tree i x)) m.2 (node-within P (defined i (former d)) (tree_parts m.0) (λ r x. x) w.0, ((tt, tt), w.1))
  node-fine i (func_type f) n e =
      let m = mapped-some (λ (ps : Made_parts tree_reader). func_node f.async ps) (parts_entries c (func_parts f)) n e in
      let w : MadeFine m.0 = parts-fine (func_parts f) m.0 m.1 in
      subst (λ (x : New_node tree_reader). Fine P (node_tree i x)) m.2 (node-within P (func i f.async) (tree_parts m.0) (λ r x. x) w.0, ((tt, tt), w.1))
  node-fine i (component_type ds) n e = cc
  node-fine i (instance_type ds) n e = cc
  node-fine i (resource_type rep dtor) n e = cc
