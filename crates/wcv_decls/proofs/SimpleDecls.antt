-- Declarations that hold no type: what was read, what is kept, and why one is refused.
use Rattle.std.proofs.Common.{◌≡◌, ℕ, List, [], ◌∷◌, refl, sym, ◌∙◌, ap, subst, Bool, true, false, cond, Some, None, inl, inr}
use Rattle.std.specs.Prelude.{Option, ◌⊎◌}
use Rattle.std.specs.Option.{option_map}
use Rattle.wcv_core.specs.Names.{Place}
use Rattle.wcv_core.specs.Refusal.{error_kind, error_offset}
use Rattle.wcv_core.specs.declared.error.Error.{Error}
use Rattle.wcv_core.specs.declared.error.ErrorKind.{ErrorKind}
use Rattle.wcv_core.specs.declared.error.ErrorKind.TheVariants as kind
use Rattle.wcv_core.specs.declared.features.WasmFeatures.{WasmFeatures}
use Rattle.wcv_syntax.specs.Model.{Core_type_form, core_rec, core_module_type, Form, core_type_item, import_item, Decl, core_type_decl, export_decl, import_decl}
use Rattle.wcv_core.specs.CoreForm.{Group}
use Rattle.wcv_core.specs.CoreJoining.{group_ids, grown}
use Rattle.wcv_core.specs.CoreWritten.{closed_group}
use Rattle.wcv_syntax.specs.ModuleTypes.{Made}
use Rattle.wcv_syntax.specs.declared.component_type.ComponentTypeRef.{ComponentTypeRef}
use Rattle.wcv_syntax.specs.declared.component_type.ComponentTypeRef.TheVariants as ref
use Rattle.wcv_syntax.specs.declared.instance.ComponentExternalKind.{ComponentExternalKind}
use Rattle.wcv_syntax.specs.declared.instance.ComponentExternalKind.TheVariants as kinds
use Rattle.wcv_syntax.specs.declared.name.ComponentExport.{ComponentExport}
use Rattle.wcv_syntax.specs.declared.name.ComponentExternName.{ComponentExternName}
use Rattle.wcv_syntax.specs.declared.name.ComponentImport.{ComponentImport}
use Rattle.wcv_types.specs.Arena.{Arena}
use Rattle.wcv_types.specs.Tree.{Sort, is_nothing, is_value, is_resource, is_func, is_instance, is_component, is_type, is_module, is_core_instance, is_core_type, is_core_item}
use Rattle.wcv_types.specs.Unfold.{Type_tree, tree_at, trees}
use Rattle.wcv_types.specs.declared.ids.ComponentAnyTypeId.TheVariants as any
use Rattle.wcv_types.specs.declared.ids.Part.TheVariants as part
use Rattle.wcv_lower.specs.Checks.{Cause}
use Rattle.wcv_lower.specs.Context.{core_types, in_instances, importing, exporting}
use Rattle.wcv_lower.specs.CoreItems.{core_entries, may_join, types_join, closed_step, module_joins, core_type_made}
use Rattle.wcv_lower.specs.Declared.{applied, declared_export_step, declared_export_checks, decl_checks}
use Rattle.wcv_lower.specs.DeclaredCalls.{DeclRead}
use Rattle.wcv_lower.specs.Entries.{extern_name, written, new_there}
use Rattle.wcv_lower.specs.Given.{GivenNames, names_of, GivesAt}
use Rattle.wcv_lower.specs.Growth.{grow, call_checks}
use Rattle.wcv_lower.specs.Names.{Under}
use Rattle.wcv_lower.specs.Owned.{ItemRegular, IsCalm, IsLed}
use Rattle.wcv_lower.specs.Readers.{Maker}
use Rattle.wcv_lower.specs.Step.{core_appends, interns, introduces, lists, creates, change, Step, Brought, apply, joins, enters}
use Rattle.wcv_lower.specs.Trees.{Tree_context, Tree_stack, tree_reader, tree_maker}
use Rattle.wcv_lower.proofs.Calm.{calm_opens, calm_instance}
use Rattle.wcv_lower.proofs.CalmGrowth.{calm_grows, calm_exports}
use Rattle.wcv_spaces.specs.Contents.{Contents, id_tree, context_of, stack_of, StateStands}
use Rattle.wcv_instantiate.specs.Instances.{MayOpen, MayOpenItem, ItemMayOpen}
use Rattle.wcv_spaces.specs.Promises.{MemoryOrCausedBy, numbers_of, Keeps, Grew, CausedAt, ExportDeclared, ExportCaused}
use Rattle.wcv_spaces.proofs.Found.{get_same, type_is}
use Rattle.wcv_decls.specs.Declaring.{IsInstanceBody}
use Rattle.wcv_decls.proofs.Plain.{own_given, SameSides}
use Rattle.wcv_decls.proofs.ReadingOn.{grown_numbers}

-- ## What was read, and why one is refused

-- the kind is a cause of the declaration there, in a stack, by names that the arena gave
abbrev pub RefusedAt : Arena → Arena → Decl → Place → ErrorKind → WasmFeatures → Tree_stack → Type 0
RefusedAt a b d p e fs s = (n : GivenNames) × GivesAt (Under p) (numbers_of a) (numbers_of b) n × Cause (decl_checks fs (tree_maker (names_of n)) p s d) e

-- the error is out of memory, or of such a kind
abbrev pub Refused : {M : Type 0} → Arena → Arena → Decl → Place → ℕ → Error M → WasmFeatures → Tree_stack → Type 0
Refused a b d p offset e fs s = (error_kind e ≡ kind.OutOfMemory) ⊎ (RefusedAt a b d p (error_kind e) fs s × (error_offset e ≡ offset))

module _ (a b : Arena) (outer : List Tree_context) (p : Place) (s : Contents) where
  pub core_read : (s' : Contents) (t : Core_type_form) → Grew a b outer p s s' (core_type_item t) → DeclRead s.features p (stack_of a s outer) (core_type_decl t) (stack_of b s' outer) (numbers_of a) (numbers_of b)
  core_read s' t w = (w.names, w.given, w.free, w.grown)

  pub core_refused : {M : Type 0} (t : Core_type_form) (offset : ℕ) (e : Error M) → CausedAt a b outer p s (core_type_item t) offset e → Refused a b (core_type_decl t) p offset e s.features (stack_of a s outer)
  core_refused t offset e w = go w.caused
    where
      go : MemoryOrCausedBy (call_checks s.features (tree_maker (names_of w.names) p) (stack_of a s outer) (core_type_item t)) offset e → Refused a b (core_type_decl t) p offset e s.features (stack_of a s outer)
      go (inl m) = inl m
      go (inr c) = inr ((w.names, w.given, c.0), c.1)

  module _ (i : ComponentImport) where
    pub import_read : (s' : Contents) → Grew a b outer p s s' (import_item i) → DeclRead s.features p (stack_of a s outer) (import_decl i) (stack_of b s' outer) (numbers_of a) (numbers_of b)
    import_read s' w = (w.names, w.given, w.free, w.grown)

    pub import_refused : {M : Type 0} (offset : ℕ) (e : Error M) → CausedAt a b outer p s (import_item i) offset e → Refused a b (import_decl i) p offset e s.features (stack_of a s outer)
    import_refused offset e w = go w.caused
      where
        go : MemoryOrCausedBy (call_checks s.features (tree_maker (names_of w.names) p) (stack_of a s outer) (import_item i)) offset e → Refused a b (import_decl i) p offset e s.features (stack_of a s outer)
        go (inl m) = inl m
        go (inr c) = inr ((w.names, w.given, c.0), c.1)

  module _ (n : ComponentExternName) (r : ComponentTypeRef) where
    pub export_read : (s' : Contents) → ExportDeclared a b outer p s s' n r → DeclRead s.features p (stack_of a s outer) (export_decl n r) (stack_of b s' outer) (numbers_of a) (numbers_of b)
    export_read s' w = (w.names, w.given, w.free, w.read)

    pub export_refused : {M : Type 0} (offset : ℕ) (e : Error M) → ExportCaused a b p s n r offset e → Refused a b (export_decl n r) p offset e s.features (stack_of a s outer)
    export_refused offset e w = go w.caused
      where
        go : MemoryOrCausedBy (declared_export_checks s.features (tree_maker (names_of w.names) p) (context_of a s) n r) offset e → Refused a b (export_decl n r) p offset e s.features (stack_of a s outer)
        go (inl m) = inl m
        go (inr c) = inr ((w.names, w.given, c.0), c.1)

-- ## The stack stays calm

module _ (a b : Arena) (outer : List Tree_context) (s s' : Contents) (k : Keeps a b s s') (c : IsCalm (numbers_of a) (stack_of a s outer)) where
  pub grown_calm : (f : Form) → ((top : Tree_context) → ItemRegular top f) → Grew a b outer [] s s' f → IsCalm (numbers_of b) (stack_of b s' outer)
  grown_calm f regular w =
      calm_grows (Under []) (numbers_of a) (numbers_of b) w.names [] (stack_of a s outer) (grown_numbers a b k.arena) w.given c s.features (stack_of b s' outer) f (regular (stack_of a s outer).top) (own_given b s' k.stands) w.grown

  pub export_calm : (n : ComponentExternName) (r : ComponentTypeRef) → ExportDeclared a b outer [] s s' n r → IsCalm (numbers_of b) (stack_of b s' outer)
  export_calm n r w = calm_exports (Under []) (numbers_of a) (numbers_of b) w.names [] (stack_of a s outer) (grown_numbers a b k.arena) w.given c (stack_of b s' outer) n r (own_given b s' k.stands) w.read

-- so a written instance type may be opened
pub may_open : (a : Arena) (outer : List Tree_context) (s : Contents) (r : ComponentTypeRef) → StateStands a s → IsCalm (numbers_of a) (stack_of a s outer) → MayOpen a s.spaces.types r
may_open a outer s (ref.Instance k) h c = λ i e. calm_opens (numbers_of a) (stack_of a s outer) c k (tree_at a (part.Instance i)) (type_is a s h k (any.Instance i) e)
may_open a outer s (ref.Module k) h c = tt
may_open a outer s (ref.Func k) h c = tt
may_open a outer s (ref.Value v) h c = tt
may_open a outer s (ref.Ty t) h c = tt
may_open a outer s (ref.Component k) h c = tt

-- so may an instance that is exported
pub item_may_open : (a : Arena) (outer : List Tree_context) (s : Contents) (e : ComponentExport) → StateStands a s → IsCalm (numbers_of a) (stack_of a s outer) → ItemMayOpen a s.spaces.instances e
item_may_open a outer s e h c = go e.kind e.ty
  where
    go : (w : ComponentExternalKind) (o : Option ComponentTypeRef) → MayOpenItem a s.spaces.instances w e.index o
    go kinds.Instance None = λ i f. calm_instance (numbers_of a) (stack_of a s outer) c e.index (tree_at a (part.Instance i)) (get_same a s h in_instances e.index ∙ ap (option_map (id_tree (trees a.nodes) in_instances)) f)
    go kinds.Instance (Some r) = tt
    go kinds.Module o = tt
    go kinds.Func o = tt
    go kinds.Value o = tt
    go kinds.Ty o = tt
    go kinds.Component o = tt

-- ## An instance type that is read

types_joined : (is : List ℕ) (s : Tree_stack) → SameSides s.top (apply (types_join tree_reader is) s).top
types_joined [] s = record { kind = refl; side = λ k. refl; defined = refl }
types_joined (i ∷ is) s =
    let w = types_joined is (change (core_appends core_types (tree_reader.core_type i)) s) in
    record { kind = w.kind; side = w.side; defined = w.defined }

-- a core type changes neither side
module _ (fs : WasmFeatures) (mk : Maker tree_reader) (s u : Tree_stack) where
  group_sides : (w : Group) (x : Bool) → option_map (λ (p : Step tree_reader). apply p s) (cond x (Some (closed_step tree_reader s.groups (closed_group (core_entries s.top) w))) None) ≡ Some u → SameSides s.top u.top
  group_sides w false e = absurd (cc)
  group_sides w true e =
      let g : Group = closed_group (core_entries s.top) w in
      let i : apply (closed_step tree_reader s.groups g) s ≡ u = cc in
      let t = types_joined (group_ids s.groups g) (change (interns (grown s.groups g)) s) in
      subst (λ (x : Tree_stack). SameSides s.top x.top) i (record { kind = t.kind; side = t.side; defined = t.defined })

  module_sides : (o : Option Made) → option_map (λ (p : Step tree_reader). apply p s) (option_map (module_joins mk core_types) o) ≡ Some u → SameSides s.top u.top
  module_sides None e = absurd (cc)
  module_sides (Some m) e = let i : apply (module_joins mk core_types m) s ≡ u = cc in subst (λ (x : Tree_stack). SameSides s.top x.top) i (record { kind = refl; side = λ k. refl; defined = refl })

  pub core_sides : (t : Core_type_form) → grow fs mk s (core_type_item t) ≡ Some u → SameSides s.top u.top
  core_sides (core_rec w) e = group_sides w (may_join s.groups (core_entries s.top) w) e
  core_sides (core_module_type ds) e = module_sides (core_type_made fs s (core_module_type ds)) e

-- an entity that joins its space changes neither
pub joined_sides : (used : Bool) (k : Sort) (x : Type_tree) (s : Tree_stack) → SameSides s.top (apply (joins tree_reader used k x) s).top
joined_sides used is_func x s = record { kind = refl; side = λ k. refl; defined = refl }
joined_sides used is_value x s = record { kind = refl; side = λ k. refl; defined = refl }
joined_sides used is_instance x s = record { kind = refl; side = λ k. refl; defined = refl }
joined_sides used is_component x s = record { kind = refl; side = λ k. refl; defined = refl }
joined_sides used is_type x s = record { kind = refl; side = λ k. refl; defined = refl }
joined_sides used is_module x s = record { kind = refl; side = λ k. refl; defined = refl }
joined_sides used is_resource x s = record { kind = refl; side = λ k. refl; defined = refl }
joined_sides used is_nothing x s = record { kind = refl; side = λ k. refl; defined = refl }
joined_sides used is_core_instance x s = record { kind = refl; side = λ k. refl; defined = refl }
joined_sides used is_core_type x s = record { kind = refl; side = λ k. refl; defined = refl }
joined_sides used is_core_item x s = record { kind = refl; side = λ k. refl; defined = refl }

-- an export is no import
pub export_body : (mk : Maker tree_reader) (s u : Tree_stack) (n : ComponentExternName) (r : ComponentTypeRef) → applied s (declared_export_step mk s.top n r) ≡ Some u → IsInstanceBody s.top → IsLed u.top → IsInstanceBody u.top
export_body mk s u n r e h led = go (new_there exporting (extern_name n) s.top (written mk s.top r)) e
  where
    go : (o : Option (Brought tree_reader)) → option_map (λ (x : Step tree_reader). apply x s) (option_map (enters exporting (extern_name n)) o) ≡ Some u → IsInstanceBody u.top
    go None e = absurd (cc)
    go (Some w) e =
        let i : apply (enters exporting (extern_name n) w) s ≡ u = cc in
        let before : Tree_stack = change (creates exporting (tree_reader.creates w.entity)) (change (lists exporting (extern_name n) w.entity) (change (introduces exporting w.resources) s)) in
        let t : SameSides before.top (apply (enters exporting (extern_name n) w) s).top = joined_sides true (tree_reader.sort w.entity) w.entity before in
        record {
          kind = ap (λ (x : Tree_stack). x.top.kind) (sym i) ∙ t.kind ∙ h.kind;
          imports = ap (λ (x : Tree_stack). x.top.side importing) (sym i) ∙ t.side importing ∙ h.imports;
          led = led;
        }
