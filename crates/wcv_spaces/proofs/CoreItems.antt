-- Core items by their sort: what stands in a state stands in its context, and one more joins both.
use Rattle.std.proofs.Common.{◌≡◌, ℕ, [], ◌∷◌, refl, sym, ◌∙◌, ap, subst, arith, true, Some, None, min}
use Rattle.std.specs.Prelude.{Option, slice_get, nat_le}
use Rattle.std.specs.Option.{option_map}
use Rattle.std.proofs.lemmas.Bool.{false≢true}
use Rattle.std.proofs.lemmas.Bool.Decides.{nat_tests}
use Rattle.std.proofs.lemmas.Option.{slice_get-map}
use Rattle.wcv_core.specs.CoreGroups.{total}
use Rattle.wcv_core.specs.CoreSizes.{IsEntityWithin}
use Rattle.wcv_core.specs.Limits.{max_entries}
use Rattle.wcv_core.specs.declared.core_types.EntityType.{EntityType}
use Rattle.wcv_core.specs.declared.core_types.EntityType.TheVariants as item
use Rattle.wcv_core.specs.declared.error.ErrorKind.TheVariants as error
use Rattle.wcv_syntax.specs.declared.core_section.ExternalKind.{ExternalKind}
use Rattle.wcv_syntax.specs.declared.core_section.ExternalKind.TheVariants as kind
use Rattle.wcv_types.specs.Arena.{Arena}
use Rattle.wcv_types.specs.Tree.{core_item, node, none}
use Rattle.wcv_types.specs.Unfold.{Type_tree, trees}
use Rattle.wcv_types.proofs.Lists.{some-inj}
use Rattle.wcv_lower.specs.Checks.{Counts, full, missing}
use Rattle.wcv_lower.specs.Context as lower
use Rattle.wcv_lower.specs.Context.{Core_space, core_funcs, core_tags, core_memories, core_tables, core_globals, counts}
use Rattle.wcv_lower.specs.CoreInstances.{space_of, is_of, core_item_at, no_item_room}
use Rattle.wcv_spaces.specs.Contents.{Contents, core_ids, core_tree, context_of, with_core_item, CoreIdStands, StateStands}
use Rattle.wcv_spaces.specs.Entering.{room_counts}
use Rattle.wcv_spaces.specs.Looking.{core_item_in}
use Rattle.wcv_spaces.specs.Promises.{Keeps}
use Rattle.wcv_spaces.proofs.JoinedSides.{counts_same}
use Rattle.wcv_spaces.proofs.Keeping.{all_at, keeps_with_core, with_core_context}

pub missing_mapped : {A B : Type 0} (f : A → B) (o : Option A) → missing (option_map f o) ≡ missing o
missing_mapped f None = refl
missing_mapped f (Some x) = refl

-- a count that ends at a greater number is as good
pub funcs_full : (n : ℕ) → full max_entries (min n 18446744073709551615) ≡ full max_entries n
funcs_full n = let e : nat_le max_entries (min n 18446744073709551615) ≡ nat_le max_entries n = grind (arith, nat_tests) in λ j. (error.Limit, e j) ∷ []

-- the tree of an item
abbrev pub item_tree : EntityType → Type_tree
item_tree e = node (core_item e) none

mapped-twice : {A B C : Type 0} (f : B → C) (g : A → B) (o : Option A) → option_map f (option_map g o) ≡ option_map (λ x. f (g x)) o
mapped-twice f g None = refl
mapped-twice f g (Some x) = refl

-- ## What stands at an index

module _ (a : Arena) (s : Contents) where
  at_index : (k : Core_space) (i : ℕ) → slice_get ((context_of a s).core k) i ≡ option_map (core_tree (trees a.nodes) k) (slice_get (core_ids k s.spaces) i)
  at_index k i = slice_get-map (core_tree (trees a.nodes) k) (core_ids k s.spaces) i

  pub item_here : (k : ExternalKind) (i : ℕ) → core_item_at (context_of a s) k i ≡ option_map item_tree (core_item_in s.spaces k i)
  item_here kind.Func i = at_index core_funcs i ∙ sym (mapped-twice item_tree item.Func (slice_get s.spaces.core_funcs i))
  item_here kind.Table i = at_index core_tables i ∙ sym (mapped-twice item_tree item.Table (slice_get s.spaces.core_tables i))
  item_here kind.Memory i = at_index core_memories i ∙ sym (mapped-twice item_tree item.Memory (slice_get s.spaces.core_memories i))
  item_here kind.Global i = at_index core_globals i ∙ sym (mapped-twice item_tree item.Global (slice_get s.spaces.core_globals i))
  item_here kind.Tag i = at_index core_tags i ∙ sym (mapped-twice item_tree item.Tag (slice_get s.spaces.core_tags i))

  -- room is looked at in the spaces alone
  pub item_room : (k : ExternalKind) → no_item_room (room_counts s.spaces) k ≡ no_item_room (counts (context_of a s)) k
  item_room kind.Func = ap (λ (c : Counts). no_item_room c kind.Func) (sym (counts_same a s))
  item_room kind.Table = ap (λ (c : Counts). no_item_room c kind.Table) (sym (counts_same a s))
  item_room kind.Memory = ap (λ (c : Counts). no_item_room c kind.Memory) (sym (counts_same a s))
  item_room kind.Global = ap (λ (c : Counts). no_item_room c kind.Global) (sym (counts_same a s))
  item_room kind.Tag = ap (λ (c : Counts). no_item_room c kind.Tag) (sym (counts_same a s))

-- ## One more

module _ (a : Arena) (s : Contents) (h : StateStands a s) where
  pub item_keeps : (e : EntityType) → IsEntityWithin (total a.core) e → Keeps a a s (with_core_item e s)
  item_keeps (item.Func t) w = keeps_with_core a core_funcs t s h w
  item_keeps (item.Table t) w = keeps_with_core a core_tables t s h w
  item_keeps (item.Memory m) w = keeps_with_core a core_memories m s h w
  item_keeps (item.Global g) w = keeps_with_core a core_globals g s h w
  item_keeps (item.Tag t) w = keeps_with_core a core_tags t s h w

-- what is found was one of them
found_one : {I : Type 0} (W : EntityType → Type 0) (to : I → EntityType) (o : Option I) (e : EntityType) → ((x : I) → o ≡ Some x → W (to x)) → option_map to o ≡ Some e → W e
found_one W to None e f v = absurd (cc)
found_one W to (Some x) e f v = subst W (some-inj v) (f x refl)

module _ (a : Arena) (s : Contents) (h : StateStands a s) where
  -- an item names core types of the table
  pub item_within : (k : ExternalKind) (i : ℕ) (e : EntityType) → core_item_in s.spaces k i ≡ Some e → IsEntityWithin (total a.core) e
  item_within kind.Func i e v = found_one (IsEntityWithin (total a.core)) item.Func (slice_get s.spaces.core_funcs i) e (λ x w. all_at (CoreIdStands a core_funcs) s.spaces.core_funcs i x (h.core core_funcs) w) v
  item_within kind.Table i e v = found_one (IsEntityWithin (total a.core)) item.Table (slice_get s.spaces.core_tables i) e (λ x w. all_at (CoreIdStands a core_tables) s.spaces.core_tables i x (h.core core_tables) w) v
  item_within kind.Memory i e v = found_one (IsEntityWithin (total a.core)) item.Memory (slice_get s.spaces.core_memories i) e (λ x w. all_at (CoreIdStands a core_memories) s.spaces.core_memories i x (h.core core_memories) w) v
  item_within kind.Global i e v = found_one (IsEntityWithin (total a.core)) item.Global (slice_get s.spaces.core_globals i) e (λ x w. all_at (CoreIdStands a core_globals) s.spaces.core_globals i x (h.core core_globals) w) v
  item_within kind.Tag i e v = found_one (IsEntityWithin (total a.core)) item.Tag (slice_get s.spaces.core_tags i) e (λ x w. all_at (CoreIdStands a core_tags) s.spaces.core_tags i x (h.core core_tags) w) v

pub item_live : (e : EntityType) (s : Contents) → (with_core_item e s).spent ≡ s.spent
item_live (item.Func t) s = refl
item_live (item.Table t) s = refl
item_live (item.Memory m) s = refl
item_live (item.Global g) s = refl
item_live (item.Tag t) s = refl

-- in its context too
pub item_context : (a : Arena) (s : Contents) (k : ExternalKind) (e : EntityType) → is_of k e ≡ true → context_of a (with_core_item e s) ≡ lower.push_core (space_of k) (item_tree e) (context_of a s)
item_context a s kind.Func (item.Func t) h = with_core_context a core_funcs t s
item_context a s kind.Func (item.Table t) h = absurd (false≢true h)
item_context a s kind.Func (item.Memory m) h = absurd (false≢true h)
item_context a s kind.Func (item.Global g) h = absurd (false≢true h)
item_context a s kind.Func (item.Tag t) h = absurd (false≢true h)
item_context a s kind.Table (item.Func t) h = absurd (false≢true h)
item_context a s kind.Table (item.Table t) h = with_core_context a core_tables t s
item_context a s kind.Table (item.Memory m) h = absurd (false≢true h)
item_context a s kind.Table (item.Global g) h = absurd (false≢true h)
item_context a s kind.Table (item.Tag t) h = absurd (false≢true h)
item_context a s kind.Memory (item.Func t) h = absurd (false≢true h)
item_context a s kind.Memory (item.Table t) h = absurd (false≢true h)
item_context a s kind.Memory (item.Memory m) h = with_core_context a core_memories m s
item_context a s kind.Memory (item.Global g) h = absurd (false≢true h)
item_context a s kind.Memory (item.Tag t) h = absurd (false≢true h)
item_context a s kind.Global (item.Func t) h = absurd (false≢true h)
item_context a s kind.Global (item.Table t) h = absurd (false≢true h)
item_context a s kind.Global (item.Memory m) h = absurd (false≢true h)
item_context a s kind.Global (item.Global g) h = with_core_context a core_globals g s
item_context a s kind.Global (item.Tag t) h = absurd (false≢true h)
item_context a s kind.Tag (item.Func t) h = absurd (false≢true h)
item_context a s kind.Tag (item.Table t) h = absurd (false≢true h)
item_context a s kind.Tag (item.Memory m) h = absurd (false≢true h)
item_context a s kind.Tag (item.Global g) h = absurd (false≢true h)
item_context a s kind.Tag (item.Tag t) h = with_core_context a core_tags t s
