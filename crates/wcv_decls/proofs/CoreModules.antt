-- The type of a module joins the arena and a state.
use Rattle.std.proofs.Common.{◌≡◌, ℕ, suc, ◌+◌, ◌<◌, ◌^◌, ◌-◌, slice_set, List, [], ◌∷◌, ◌++◌, map, length, sym, ◌∙◌, ap, subst, arith, length-append, All, Option, Some, None, false, true}
use Rattle.std.specs.Prelude.{reverse, slice_get, is_some}
use Rattle.std.proofs.lemmas.Bool.{false≢true}
use Rattle.std.proofs.lemmas.List.{length-map}
use Rattle.std.specs.Option.{option_map}
use Rattle.wcv_core.specs.CoreForm.{Group}
use Rattle.wcv_core.specs.Names.{Place, number}
use Rattle.wcv_core.specs.declared.core_types.CoreTypeId.{CoreTypeId}
use Rattle.wcv_core.specs.Refusal.{error_kind}
use Rattle.wcv_core.specs.declared.error.Error.{Error}
use Rattle.wcv_core.specs.declared.features.WasmFeatures.{WasmFeatures}
use Rattle.wcv_syntax.specs.Model.{Module_decl, core_module_item, core_type_item, core_module_type}
use Rattle.wcv_syntax.specs.ModuleTypes.{Module_type, Made, empty_module, all_declared, module_checks}
use Rattle.wcv_types.specs.Arena.{Arena}
use Rattle.wcv_types.specs.CoreCalls.{with_core}
use Rattle.wcv_types.specs.Rebuild.{types_in}
use Rattle.wcv_types.specs.Standing.{Stands, Extends, with_node}
use Rattle.wcv_types.specs.Tree.{module_type}
use Rattle.wcv_types.specs.Unfold.{capped, rank, slot_tree, tree_at, tree_of, trees}
use Rattle.wcv_types.specs.declared.arena.Node.TheVariants as n
use Rattle.wcv_types.specs.declared.core_shapes.ModuleType.{ModuleType}
use Rattle.wcv_types.specs.declared.ids.ComponentCoreModuleTypeId.{ComponentCoreModuleTypeId}
use Rattle.wcv_types.specs.declared.ids.ComponentCoreTypeId.TheVariants as core_type
use Rattle.wcv_types.specs.declared.ids.Part.TheVariants as p
use Rattle.wcv_types.proofs.EntryParts.{module_node}
use Rattle.wcv_types.proofs.Grown.{extends_push, is_last, length-trees}
use Rattle.wcv_lower.specs.Checks.{Checks, IsFree, no_type_room}
use Rattle.wcv_lower.specs.Context.{in_types, Core_space, core_types, core_modules, push_core, counts}
use Rattle.wcv_lower.specs.CoreItems.{outer_entries, module_made, module_joins}
use Rattle.wcv_lower.specs.Given.{named, names_of, none_given}
use Rattle.wcv_lower.specs.Growth.{call_checks}
use Rattle.wcv_lower.specs.Names.{Names, introduced}
use Rattle.wcv_lower.specs.Readers.{Maker}
use Rattle.wcv_lower.specs.Step.{Step, apply}
use Rattle.wcv_lower.specs.Trees.{Type_tree, Tree_context, Tree_stack, tree_reader, tree_maker, module_tree}
use Rattle.wcv_lower.proofs.Causes.{cause_left, cause_right, free_both, free_left, free_right}
use Rattle.wcv_lower.proofs.ModulesMade.{made_same}
use Rattle.wcv_spaces.specs.Contents as state
use Rattle.wcv_spaces.specs.Contents.{Contents, Core_id, context_of, stack_of, core_slot, core_tree, id_tree, core_entries_of, CoreStands, StateStands}
use Rattle.wcv_spaces.specs.Promises.{MemoryOrCausedBy, Keeps, Grew, Refuses}
use Rattle.wcv_spaces.proofs.Calls.{caused_more}
use Rattle.wcv_state.proofs.CoreRoom.{counts_more}
use Rattle.wcv_spaces.proofs.Keeping.{state_stands, same_context, keeps_grown, keeps_trans, keeps_with_core, with_core_context}
use Rattle.wcv_state.specs.Stack.{innermost, around}
use Rattle.wcv_state.proofs.Stacks.{none_made, innermost_at, parted}
use Rattle.wcv_decls.specs.CoreItems.{StoredModule, JoinedCore, JoinedModule, JoinsWith, JoinsMade, JoinsCoreType, core_space, with_module, MadeIn, FreeIn, CausedIn}
use Rattle.wcv_decls.specs.Stack.{IsOpen, contexts_around, stack_on}
use Rattle.wcv_decls.specs.declared.core_module.ModuleSpace.{ModuleSpace}
use Rattle.wcv_decls.specs.declared.core_module.ModuleSpace.TheVariants as space
use Rattle.wcv_decls.proofs.CoreEntries.{spaces_same}
use Rattle.wcv_decls.proofs.InnermostStates.{set_last}
use Rattle.wcv_decls.proofs.Naming.{node_names, node_given, node_name}

-- ## The node

-- the size that a node keeps is capped
pub kept_size : (n m x : ℕ) → n ≡ m → n ≡ capped x → n ≡ capped m
kept_size n m x e c = let k : n ≡ capped n = omega (arith, c) in k ∙ ap capped e

pub module_stored : (a b : Arena) (m : Module_type) (t : ModuleType) (i : ComponentCoreModuleTypeId) → t.info.size ≡ capped m.size → t.imports ≡ m.imports → t.exports ≡ m.exports → t.types.items ≡ m.types → b ≡ with_node a (n.Module t) →
    rank (p.Module i) ≡ suc (length a.nodes) → Stands b (p.Module i) → tree_at b (p.Module i) ≡ tree_of (trees a.nodes) (n.Module t) → StoredModule a b m i
module_stored a b m t i es ei ee et eb last stands tree =
    let l : length (trees a.nodes) ≡ length a.nodes = length-trees a.nodes in
    let behind : suc i.index ≡ suc (length a.nodes) = last in
    let stored : slice_get b.nodes i.index ≡ Some (n.Module t) = is_last a.nodes b.nodes (n.Module t) i.index (ap (λ (y : Arena). y.nodes) eb) (omega (arith, behind)) in
    record {
      stands = stands;
      tree = tree ∙ module_node (trees a.nodes) (length (trees a.nodes)) t ∙ λ j. module_type (number (l j)) (es j) (ei j) (ee j);
      types = ap types_in stored ∙ et;
      nodes = ap (λ (y : Arena). length y.nodes) eb ∙ length-append a.nodes (n.Module t ∷ []) ∙ omega arith;
      core = ap (λ (y : Arena). y.core) eb;
      arena = subst (Extends a) (sym eb) (extends_push a (n.Module t));
    }

-- it joins a space
pub joined_as : (k : Core_space) (x : Core_id k) (a b : Arena) (s s' : Contents) (t : Type_tree) → StateStands a s → s.spent ≡ false → Extends a b → length b.nodes ≡ suc (length a.nodes) → b.core ≡ a.core →
    slot_tree (trees b.nodes) (core_slot k x) ≡ t → CoreStands b (core_slot k x) → s' ≡ state.with_core k x s → JoinedCore k a b s s' t
joined_as k x a b s s' t h live grown nodes core tree stands es =
    let same : context_of b s ≡ context_of a s = same_context a b grown s h in
    subst (λ (z : Contents). JoinedCore k a b s z t) (sym es) (record {
      grown = with_core_context b k x s ∙ λ j. push_core k (tree j) (same j);
      nodes = nodes;
      core = core;
      live = live;
      keeps = keeps_trans a b b s s (state.with_core k x s) (keeps_grown a b s grown h) (keeps_with_core b k x s (state_stands a b grown s h) stands);
    })

pub module_joined : (j : ModuleSpace) (a b : Arena) (s s' : Contents) (m : Module_type) (i : ComponentCoreModuleTypeId) → StateStands a s → s.spent ≡ false →
    StoredModule a b m i → s' ≡ with_module j i s → JoinedModule (core_space j) a b s s' m
module_joined space.CoreTypes a b s s' m i h live w es = joined_as core_types (core_type.Module i) a b s s' (module_tree (number (length a.nodes)) m) h live w.arena w.nodes w.core w.tree w.stands es
module_joined space.CoreModules a b s s' m i h live w es = joined_as core_modules i a b s s' (module_tree (number (length a.nodes)) m) h live w.arena w.nodes w.core w.tree w.stands es

-- with the core types that it was given
pub module_joins_with : (j : ModuleSpace) (a b : Arena) (s s' : Contents) (m : Module_type) (i : ComponentCoreModuleTypeId) → StoredModule a b m i → s' ≡ with_module j i s → JoinsWith (core_space j) b s s' m.types
module_joins_with space.CoreTypes a b s s' m i w es = record { id = core_type.Module i; joined = ap (λ (z : Contents). z.spaces.core_types) es; types = w.types }
module_joins_with space.CoreModules a b s s' m i w es = record { id = i; joined = ap (λ (z : Contents). z.spaces.core_modules) es; types = w.types }

-- of modules that are made there is one
abbrev types_of : Option Made → List CoreTypeId
types_of None = []
types_of (Some m) = m.1.types

pub joins_made : (k : Core_space) (b : Arena) (s s' : Contents) (gs : List Group) (m : Module_type) (o : Option Made) → o ≡ Some (gs, m) → JoinsWith k b s s' m.types → JoinsMade k b s s' o
joins_made k b s s' gs m o e w n f = let same : m.types ≡ n.1.types = ap types_of (sym e ∙ f) in subst (JoinsWith k b s s') same w

-- a core type item that is no module type makes none
pub joins_none : (k : Core_space) (b : Arena) (s s' : Contents) → JoinsMade k b s s' None
joins_none k b s s' m e = absurd (false≢true (ap is_some e))

-- ## After the declarations that made it

module _ (k : Core_space) (a b c : Arena) (s s' : Contents) (m : Module_type) (h : StateStands a s) (rest : b ≡ with_core a b.core) (ext : Extends a b) (w : JoinedModule k b c s s' m) where
  before : length b.nodes ≡ length a.nodes
  before = ap (λ (y : Arena). length y.nodes) rest

  made_nodes : length c.nodes ≡ suc (length a.nodes)
  made_nodes = w.nodes ∙ ap suc before

  abbrev maker_at : Place → Maker tree_reader
  maker_at q = tree_maker (names_of (node_names a c q made_nodes)) q

  module_reached : (outer : List Tree_context) (q : Place) → apply (module_joins (maker_at q) k (b.core, m)) (stack_of a s outer) ≡ stack_of c s' outer
  module_reached outer q =
      let same : context_of b s ≡ context_of a s = same_context a b ext s h in
      let i : named (node_names a c q made_nodes).identities (introduced q) ≡ number (length a.nodes) = node_name a c q made_nodes in
      let e : push_core k (module_tree (named (node_names a c q made_nodes).identities (introduced q)) m) (context_of a s) ≡ context_of c s' =
      (λ j. push_core k (module_tree ((i ∙ ap number (sym before)) j) m) (sym same j)) ∙ sym w.grown in
      λ j. record { top = e j; outer = outer; groups = sym w.core j }

  module_grows : (outer : List Tree_context) (q : Place) (o : Option Made) → o ≡ Some (b.core, m) →
      option_map (λ (x : Step tree_reader). apply x (stack_of a s outer)) (option_map (module_joins (maker_at q) k) o) ≡ Some (stack_of c s' outer)
  module_grows outer q o e =
      ap (λ (r : Option Made). option_map (λ (x : Step tree_reader). apply x (stack_of a s outer)) (option_map (module_joins (maker_at q) k) r)) e ∙ ap Some (module_reached outer q)

  pub module_keeps : Keeps a c s s'
  module_keeps = keeps_trans a b c s s s' (keeps_grown a b s ext h) w.keeps

pub core_module_grew : (a b c : Arena) (s s' : Contents) (m : Module_type) → StateStands a s → b ≡ with_core a b.core → Extends a b → JoinedModule core_modules b c s s' m → (ds : List Module_decl) →
    all_declared [] a.core (empty_module s.features) ds ≡ Some (b.core, m) → IsFree (module_checks [] a.core (empty_module s.features) ds) → (outer : List Tree_context) (q : Place) → Grew a c outer q s s' (core_module_item ds)
core_module_grew a b c s s' m h rest ext w ds made free outer q =
    let found : module_made [] a.core (empty_module s.features) ds ≡ Some (b.core, m) = made_same [] a.core (empty_module s.features) ds free ∙ made in
    record {
      names = node_names a c q (made_nodes core_modules a b c s s' m h rest ext w);
      given = node_given a c q (made_nodes core_modules a b c s s' m h rest ext w);
      grown = module_grows core_modules a b c s s' m h rest ext w outer q (module_made [] a.core (empty_module s.features) ds) found;
      free = free;
      live = w.live;
    }

pub module_type_grew : (a b c : Arena) (s s' : Contents) (m : Module_type) → StateStands a s → b ≡ with_core a b.core → Extends a b → JoinedModule core_types b c s s' m → (ds : List Module_decl) (ss outer : List Contents) → ss ≡ outer ++ s ∷ [] →
    MadeIn a b ss ds m → FreeIn a ss (core_type_item (core_module_type ds)) → (q : Place) → Grew a c (contexts_around a outer) q s s' (core_type_item (core_module_type ds))
module_type_grew a b c s s' m h rest ext w ds ss outer e made free q =
    let around : Tree_stack = stack_on a outer s in
    let named_so : Names = names_of (node_names a c q (made_nodes core_types a b c s s' m h rest ext w)) in
    let declared_free : IsFree (module_checks (outer_entries around) a.core (empty_module s.features) ds) =
    free_left (module_checks (outer_entries around) a.core (empty_module s.features) ds) (no_type_room true (counts (context_of a s))) (free outer s e named_so q) in
    let found : module_made (outer_entries around) a.core (empty_module s.features) ds ≡ Some (b.core, m) = made_same (outer_entries around) a.core (empty_module s.features) ds declared_free ∙ made outer s e in
    record {
      names = node_names a c q (made_nodes core_types a b c s s' m h rest ext w);
      given = node_given a c q (made_nodes core_types a b c s s' m h rest ext w);
      grown = module_grows core_types a b c s s' m h rest ext w (contexts_around a outer) q (module_made (outer_entries around) a.core (empty_module s.features) ds) found;
      free = free outer s e named_so q;
      live = w.live;
    }

-- so with the core types of a module type
pub type_joins_made : (a b c : Arena) (ss : List Contents) (k : ℕ) (s s' : Contents) (m : Module_type) (ds : List Module_decl) → 0 < length ss → k ≡ length ss - 1 → s ≡ innermost ss → MadeIn a b ss ds m →
    FreeIn a ss (core_type_item (core_module_type ds)) → JoinsWith core_types c s s' m.types → JoinsCoreType a c ss (slice_set ss k s') (core_module_type ds)
type_joins_made a b c ss k s s' m ds some last here made free w =
    let t : Contents = innermost ss in
    let outer : List Contents = around ss in
    let stack : Tree_stack = stack_on a outer t in
    let parts : ss ≡ outer ++ t ∷ [] = parted ss some in
    let checked : IsFree (module_checks (outer_entries stack) a.core (empty_module t.features) ds) =
    free_left (module_checks (outer_entries stack) a.core (empty_module t.features) ds) (no_type_room true (counts (context_of a t))) (free outer t parts (names_of none_given) []) in
    let now : innermost (slice_set ss k s') ≡ s' = ap innermost (set_last ss k s' some last) ∙ innermost_at outer s' in
    joins_made core_types c t (innermost (slice_set ss k s')) b.core m (module_made (outer_entries stack) a.core (empty_module t.features) ds)
    (made_same (outer_entries stack) a.core (empty_module t.features) ds checked ∙ made outer t parts)
    (subst (λ (y : Contents × Contents). JoinsWith core_types c y.0 y.1 m.types) (λ j. (here j, sym now j)) w)

-- and 32 bits count it
pub module_type_counted : (a : Arena) (ss : List Contents) (s : Contents) (ds : List Module_decl) → 0 < length ss → s ≡ innermost ss → FreeIn a ss (core_type_item (core_module_type ds)) → length s.spaces.core_types + 1 < 2 ^ 32
module_type_counted a ss s ds some here free =
    let t : Contents = innermost ss in
    let outer : List Contents = around ss in
    let checks : Checks = module_checks (outer_entries (stack_on a outer t)) a.core (empty_module t.features) ds in
    let room : IsFree (no_type_room true (counts (context_of a t))) = free_right checks (no_type_room true (counts (context_of a t))) (free outer t (parted ss some) (names_of none_given) []) in
    let many : length (map (core_tree (trees a.nodes) core_types) t.spaces.core_types) ≡ length t.spaces.core_types = length-map t.spaces.core_types (core_tree (trees a.nodes) core_types) in
    let counted = counts_more (length (map (core_tree (trees a.nodes) core_types) t.spaces.core_types)) (length (map (id_tree (trees a.nodes) in_types) t.spaces.types)) room in
    subst (λ (z : Contents). length z.spaces.core_types + 1 < 2 ^ 32) (sym here) (subst (λ (n : ℕ). n + 1 < 2 ^ 32) many counted)

-- a core module that was refused before it was made
pub core_module_refused : {M : Type 0} (a b : Arena) (s s' : Contents) (ds : List Module_decl) (offset : ℕ) (e : Error M) → s'.spent ≡ true → MemoryOrCausedBy (module_checks [] a.core (empty_module s.features) ds) offset e →
    (outer : List Tree_context) (p : Place) → Refuses a b outer p s s' (core_module_item ds) offset e
core_module_refused a b s s' ds offset e gone t outer p = (gone, record { names = none_given; given = none_made a b p; caused = t })

-- ## Where the innermost state stands

abbrev pub IsInnermost : List Contents → Contents → Type 0
IsInnermost ss x = (outer : List Contents) (s : Contents) → ss ≡ outer ++ s ∷ [] → x ≡ s

module _ (a : Arena) (ss : List Contents) (x : Contents) (fs : WasmFeatures) (ds : List Module_decl) (live : All (IsOpen a) ss) (inner : IsInnermost ss x) (ef : fs ≡ x.features) where
  abbrev Declared : Checks
  Declared = module_checks (reverse (map core_entries_of ss)) a.core (empty_module fs) ds

  abbrev Room : Checks
  Room = no_type_room true (counts (context_of a x))

  features_same : (outer : List Contents) (s : Contents) → ss ≡ outer ++ s ∷ [] → fs ≡ s.features
  features_same outer s e = ef ∙ ap (λ (z : Contents). z.features) (inner outer s e)

  checks_same : (outer : List Contents) (s : Contents) → ss ≡ outer ++ s ∷ [] → (n : Names) (p : Place) → Declared ++ Room ≡ call_checks s.features (tree_maker n p) (stack_on a outer s) (core_type_item (core_module_type ds))
  checks_same outer s e n p =
      let es = spaces_same a ss outer s e live in
      let f : fs ≡ s.features = features_same outer s e in
      let i : x ≡ s = inner outer s e in
      λ j. module_checks (es j) a.core (empty_module (f j)) ds ++ no_type_room true (counts (context_of a (i j)))

  pub made_in : (b : Arena) (m : Module_type) → all_declared (reverse (map core_entries_of ss)) a.core (empty_module fs) ds ≡ Some (b.core, m) → MadeIn a b ss ds m
  made_in b m made outer s e =
      let es = spaces_same a ss outer s e live in
      let f : fs ≡ s.features = features_same outer s e in
      (λ j. all_declared (sym es j) a.core (empty_module (sym f j)) ds) ∙ made

  pub free_in : IsFree (module_checks (reverse (map core_entries_of ss)) a.core (empty_module fs) ds) → IsFree (no_type_room true (counts (context_of a x))) → FreeIn a ss (core_type_item (core_module_type ds))
  free_in f r outer s e n p = subst IsFree (checks_same outer s e n p) (free_both Declared Room f r)

  pub declared_caused : {M : Type 0} (offset : ℕ) (y : Error M) → MemoryOrCausedBy (module_checks (reverse (map core_entries_of ss)) a.core (empty_module fs) ds) offset y → CausedIn a ss (core_type_item (core_module_type ds)) offset y
  declared_caused offset y m outer s e n p = subst (λ cs. MemoryOrCausedBy cs offset y) (checks_same outer s e n p) (caused_more Declared (Declared ++ Room) offset y (cause_left Declared Room (error_kind y)) m)

  pub room_caused : {M : Type 0} (offset : ℕ) (y : Error M) → MemoryOrCausedBy (no_type_room true (counts (context_of a x))) offset y → CausedIn a ss (core_type_item (core_module_type ds)) offset y
  room_caused offset y m outer s e n p = subst (λ cs. MemoryOrCausedBy cs offset y) (checks_same outer s e n p) (caused_more Room (Declared ++ Room) offset y (cause_right Declared Room (error_kind y)) m)
