-- Values that are used: what a state stands for with them marked, and the causes of uses one after another.
use Rattle.std.proofs.Common.{◌≡◌, ℕ, zero, suc, List, [], ◌∷◌, map, refl, sym, ◌∙◌, ap, subst, Bool, true, false, append-nil}
use Rattle.std.specs.Prelude.{All, ◌||◌}
use Rattle.std.specs.Option.{unwrap_or}
use Rattle.std.proofs.lemmas.List.Elements.{All-cons, All-head, All-tail}
use Rattle.std.proofs.lemmas.Option.{slice_get-map}
use Rattle.wcv_core.specs.declared.error.ErrorKind.TheVariants as error
use Rattle.wcv_types.specs.Arena.{Arena}
use Rattle.wcv_types.specs.Standing.{Extends}
use Rattle.wcv_types.specs.Unfold.{trees}
use Rattle.wcv_types.specs.declared.shapes.ComponentEntityType.{ComponentEntityType}
use Rattle.wcv_types.specs.declared.shapes.ComponentValType.{ComponentValType}
use Rattle.wcv_types.proofs.Grown.{extends_refl}
use Rattle.wcv_lower.specs.Context.{in_types, in_funcs, in_values, in_instances, in_components, core_types, core_funcs, core_tags, core_modules, core_instances, core_memories, core_tables, core_globals}
use Rattle.wcv_lower.specs.Marks.{uses_each, marked, use_all, is_used_again, use_checks}
use Rattle.wcv_lower.specs.Step.{change_at, apply}
use Rattle.wcv_lower.specs.Trees.{Tree_context}
use Rattle.wcv_lower.proofs.MarkLaws.{uses-applied}
use Rattle.wcv_spaces.specs.Contents.{Contents, ids, core_ids, sides, names, used_at, with_uses, with_start, spent, unmarked, entries_of, id_tree, core_tree, context_of, stack_of, IdStands, CoreIdStands, StateStands}
use Rattle.wcv_spaces.specs.Promises.{IsPrefix, Keeps, MayJoinExports}
use Rattle.wcv_spaces.specs.Values.{Values, is_used_again_in, use_id_checks}
use Rattle.wcv_spaces.proofs.Keeping.{state_stands, no_more, entries_refl, keeps_grown, keeps_trans, keeps_grown_marked}
use Rattle.wcv_spaces.proofs.Sides.{each_space, each_core}

-- ## Lists in which values are marked

abbrev pub as_used : ComponentValType × Bool → ComponentValType × Bool
as_used v = (v.0, true)

one_mapped : {B : Type 0} (f : ComponentValType × Bool → B) → ((v : ComponentValType × Bool) → f (as_used v) ≡ f v) → (k : ℕ) (vs : Values) → map f (change_at k as_used vs) ≡ map f vs
one_mapped f h k [] = refl
one_mapped f h zero (v ∷ vs) = ap (λ y. y ∷ map f vs) (h v)
one_mapped f h (suc k) (v ∷ vs) = ap (λ ys. f v ∷ ys) (one_mapped f h k vs)

-- what does not look at marks
pub same_values : {B : Type 0} (f : ComponentValType × Bool → B) → ((v : ComponentValType × Bool) → f (as_used v) ≡ f v) → (ks : List ℕ) (vs : Values) → map f (used_at ks vs) ≡ map f vs
same_values f h [] vs = refl
same_values f h (k ∷ ks) vs = same_values f h ks (change_at k as_used vs) ∙ one_mapped f h k vs

one_marked : (k : ℕ) (vs : Values) → map (λ v. v.1) (change_at k as_used vs) ≡ change_at k (λ b. true) (map (λ v. v.1) vs)
one_marked k [] = refl
one_marked zero (v ∷ vs) = refl
one_marked (suc k) (v ∷ vs) = ap (λ bs. v.1 ∷ bs) (one_marked k vs)

-- the marks themselves
marks_used : (ks : List ℕ) (vs : Values) → map (λ v. v.1) (used_at ks vs) ≡ marked ks (map (λ v. v.1) vs)
marks_used [] vs = refl
marks_used (k ∷ ks) vs = marks_used ks (change_at k as_used vs) ∙ ap (marked ks) (one_marked k vs)

again_same : (ks : List ℕ) (vs : Values) → is_used_again ks (map (λ v. v.1) vs) ≡ is_used_again_in ks vs
again_same [] vs = refl
again_same (k ∷ ks) vs = λ j. unwrap_or (slice_get-map (λ (v : ComponentValType × Bool). v.1) vs k j) false || (ap (is_used_again ks) (sym (one_marked k vs)) ∙ again_same ks (change_at k as_used vs)) j

one_stands : (a : Arena) (k : ℕ) (vs : Values) → All (IdStands a in_values) vs → All (IdStands a in_values) (change_at k as_used vs)
one_stands a k [] h = h
one_stands a zero (v ∷ vs) h = All-cons (IdStands a in_values) (as_used v) vs (All-head (IdStands a in_values) v vs h) (All-tail (IdStands a in_values) v vs h)
one_stands a (suc k) (v ∷ vs) h = All-cons (IdStands a in_values) v (change_at k as_used vs) (All-head (IdStands a in_values) v vs h) (one_stands a k vs (All-tail (IdStands a in_values) v vs h))

pub used_stand : (a : Arena) (ks : List ℕ) (vs : Values) → All (IdStands a in_values) vs → All (IdStands a in_values) (used_at ks vs)
used_stand a [] vs h = h
used_stand a (k ∷ ks) vs h = used_stand a ks (change_at k as_used vs) (one_stands a k vs h)

-- ## The state with them

-- the context, where these values are used
pub uses_context : (a : Arena) (ks : List ℕ) (s : Contents) → context_of a (with_uses ks s) ≡ use_all ks (context_of a s)
uses_context a ks s = λ j. record (context_of a s) {
  core = λ k. each_core (λ i. map (core_tree (trees a.nodes) i) (core_ids i (with_uses ks s).spaces) ≡ map (core_tree (trees a.nodes) i) (core_ids i s.spaces)) refl refl refl refl refl refl refl refl k j;
  space = λ k. each_space (λ i. map (id_tree (trees a.nodes) i) (ids i (with_uses ks s).spaces) ≡ map (id_tree (trees a.nodes) i) (ids i s.spaces)) refl refl (same_values (id_tree (trees a.nodes) in_values) (λ v. refl) ks s.spaces.values) refl refl k j;
  used = marks_used ks s.spaces.values j;
}

-- what a step that uses them makes of the stack
pub uses_stack : (a : Arena) (ks : List ℕ) (s : Contents) (outer : List Tree_context) → stack_of a (with_uses ks s) outer ≡ apply (uses_each ks) (stack_of a s outer)
uses_stack a ks s outer = (λ j. record { top = uses_context a ks s j; outer = outer; groups = a.core }) ∙ sym (uses-applied ks (stack_of a s outer))

-- the causes of uses, over ids and as the rules have them
pub use_checks_same : (a : Arena) (s : Contents) (ks : List ℕ) → use_checks (context_of a s) ks ≡ use_id_checks s.spaces.values ks
use_checks_same a s ks = ap (λ (b : Bool). (error.Value, b) ∷ []) (again_same ks s.spaces.values)

pub uses_stand : (a : Arena) (ks : List ℕ) (s : Contents) → StateStands a s → StateStands a (with_uses ks s)
uses_stand a ks s h = record {
  space = each_space (λ k. All (IdStands a k) (ids k (with_uses ks s).spaces)) (h.space in_types) (h.space in_funcs) (used_stand a ks s.spaces.values (h.space in_values)) (h.space in_instances) (h.space in_components);
  core = each_core (λ k. All (CoreIdStands a k) (core_ids k (with_uses ks s).spaces)) (h.core core_types) (h.core core_funcs) (h.core core_tags) (h.core core_modules) (h.core core_instances) (h.core core_memories) (h.core core_tables) (h.core core_globals);
  side = h.side;
  imported = h.imported;
  defined = h.defined;
  numbers = h.numbers;
  named = h.named;
  lead = h.lead;
  sized = record { size = h.sized.size; depth = h.sized.depth };
}

-- the entries stay, marks of use aside
pub uses_aside : (ks : List ℕ) (s : Contents) → entries_of in_values (with_uses ks s).spaces ≡ entries_of in_values s.spaces
uses_aside ks s = same_values (unmarked in_values) (λ v. refl) ks s.spaces.values

pub keeps_uses : (a : Arena) (ks : List ℕ) (s : Contents) → StateStands a s → Keeps a a s (with_uses ks s)
keeps_uses a ks s h = record {
  arena = extends_refl a;
  stands = uses_stand a ks s h;
  entries = record {
    space = each_space (λ k. IsPrefix (entries_of k s.spaces) (entries_of k (with_uses ks s).spaces)) (no_more _) (no_more _) ([], uses_aside ks s ∙ sym (append-nil (entries_of in_values s.spaces))) (no_more _) (no_more _);
    core = each_core (λ k. IsPrefix (core_ids k s.spaces) (core_ids k (with_uses ks s).spaces)) (no_more _) (no_more _) (no_more _) (no_more _) (no_more _) (no_more _) (no_more _) (no_more _);
  };
  sides = λ d. no_more (sides s d);
  imported = no_more s.imported_resources;
  defined = no_more s.defined_resources;
  named = λ d. no_more (names s d);
  kind = refl;
  features = refl;
  context_type = λ v e. e;
}

-- in an arena that grew: values are used, or the state is spent
pub keeps_used : (a b : Arena) (ks : List ℕ) (s s' : Contents) → Extends a b → StateStands a s → s' ≡ with_uses ks s → Keeps a b s s'
keeps_used a b ks s s' g h e = subst (Keeps a b s) (sym e) (keeps_trans a b b s s (with_uses ks s) (keeps_grown a b s g h) (keeps_uses b ks s (state_stands a b g s h)))

pub keeps_spent : (a b : Arena) (s s' : Contents) → Extends a b → StateStands a s → s' ≡ spent s → Keeps a b s s'
keeps_spent a b s s' g h e = subst (Keeps a b s) (sym e) (keeps_grown_marked a b s s true g refl h)

-- what may join the exports may still
pub used_joins : (a : Arena) (ks : List ℕ) (s s' : Contents) (x : ComponentEntityType) → s' ≡ with_uses ks s → MayJoinExports a s x → MayJoinExports a s' x
used_joins a ks s s' x e w = subst (λ (y : Contents). MayJoinExports a y x) (sym e) (record { entity = w.entity; introduced = record { imported = w.introduced.imported; defined = w.introduced.defined }; unnamed = w.unnamed })

-- ## A start function that is named

pub keeps_start : (a : Arena) (s : Contents) → StateStands a s → Keeps a a s (with_start s)
keeps_start a s h = record {
  arena = extends_refl a;
  stands = record { space = h.space; core = h.core; side = h.side; imported = h.imported; defined = h.defined; numbers = h.numbers; named = h.named; lead = h.lead; sized = record { size = h.sized.size; depth = h.sized.depth } };
  entries = entries_refl s.spaces;
  sides = λ d. no_more (sides s d);
  imported = no_more s.imported_resources;
  defined = no_more s.defined_resources;
  named = λ d. no_more (names s d);
  kind = refl;
  features = refl;
  context_type = λ v e. e;
}
