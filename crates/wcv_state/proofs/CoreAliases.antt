-- Aliases of what core instances export: what is looked up in a state is what its context says.
use Rattle.std.proofs.Common.{◌≡◌, ℕ, List, [], ◌∷◌, ◌++◌, refl, sym, ◌∙◌, ap, subst, Bool, true, false, not, cond, Some, None, bytes_eq}
use Rattle.std.specs.Prelude.{Option, slice_get}
use Rattle.std.specs.Option.{option_map, option_and_then}
use Rattle.std.specs.Map.{lookup}
use Rattle.wcv_core.specs.Names.{Place}
use Rattle.wcv_core.specs.declared.core_types.EntityType.{EntityType}
use Rattle.wcv_core.specs.declared.error.Error.{Error}
use Rattle.wcv_core.specs.declared.error.ErrorKind.TheVariants as error
use Rattle.wcv_core.specs.declared.features.WasmFeatures.{WasmFeatures}
use Rattle.wcv_core.proofs.Causes.{cause_left, cause_right, free_both}
use Rattle.wcv_syntax.specs.Model.{alias_item}
use Rattle.wcv_syntax.specs.declared.core_section.ExternalKind.{ExternalKind}
use Rattle.wcv_syntax.specs.declared.instance.ComponentAlias.TheVariants as alias
use Rattle.wcv_types.specs.Arena.{Arena}
use Rattle.wcv_types.specs.Standing.{Stands}
use Rattle.wcv_types.specs.Tree.{Text}
use Rattle.wcv_types.specs.Unfold.{Type_tree, trees, tree_at}
use Rattle.wcv_types.specs.declared.ids.ComponentCoreInstanceTypeId.{ComponentCoreInstanceTypeId}
use Rattle.wcv_types.specs.declared.ids.Part.TheVariants as part
use Rattle.wcv_matching.specs.ModuleItems.{instance_exports}
use Rattle.wcv_lower.specs.Checks.{Checks, Cause, IsFree, if_found, missing}
use Rattle.wcv_lower.specs.Context.{core_instances, is_concrete, counts}
use Rattle.wcv_lower.specs.CoreInstances.{is_of, sort_needs, no_item_room, core_instance_at, core_export_of, if_of, item_joins, export_checks, core_alias_step, core_alias_checks}
use Rattle.wcv_lower.specs.Given.{none_given}
use Rattle.wcv_lower.specs.Step.{Step, apply}
use Rattle.wcv_lower.specs.Trees.{Tree_context, tree_reader}
use Rattle.wcv_spaces.specs.Contents.{Contents, kind_of, core_tree, context_of, stack_of, with_core_item, StateStands}
use Rattle.wcv_spaces.specs.Entering.{room_counts}
use Rattle.wcv_spaces.specs.Looking.{AliasFinds}
use Rattle.wcv_spaces.specs.Promises.{MemoryOrCausedBy, Grew}
use Rattle.wcv_spaces.proofs.Calls.{caused_more}
use Rattle.wcv_spaces.proofs.CoreItems.{item_room, item_live, item_context, missing_mapped}
use Rattle.wcv_spaces.proofs.Found.{core_same, core_stands_at}

-- ## What is found

module _ (a : Arena) (s : Contents) (h : StateStands a s) (k : ExternalKind) (i : ℕ) (n : Text) where
  abbrev at_index : Option ComponentCoreInstanceTypeId
  at_index = slice_get s.spaces.core_instances i

  abbrev exports_at : ComponentCoreInstanceTypeId → Option EntityType
  exports_at x = lookup (bytes_eq n) (instance_exports (tree_at a (part.CoreInstance x)))

  instance_here : core_instance_at (context_of a s) i ≡ option_map (core_tree (trees a.nodes) core_instances) at_index
  instance_here = core_same a s h core_instances i

  instance_is : (x : ComponentCoreInstanceTypeId) → at_index ≡ Some x → core_instance_at (context_of a s) i ≡ Some (tree_at a (part.CoreInstance x))
  instance_is x e = instance_here ∙ ap (option_map (core_tree (trees a.nodes) core_instances)) e

  pub instance_stands : (x : ComponentCoreInstanceTypeId) → at_index ≡ Some x → Stands a (part.CoreInstance x)
  instance_stands x e = core_stands_at a s h core_instances i x e

  -- the item joins
  pub alias_step_is : (e : EntityType) → AliasFinds a s.spaces k i n e → core_alias_step (context_of a s) k i n ≡ Some (item_joins tree_reader k e)
  alias_step_is e w =
      ap (λ (o : Option Type_tree). option_map (item_joins tree_reader k) (option_and_then (if_of k) (option_and_then (core_export_of tree_reader n) o))) (instance_is w.instance w.at) ∙
      ap (λ (o : Option EntityType). option_map (item_joins tree_reader k) (option_and_then (if_of k) o)) w.export ∙
      ap (λ (b : Bool). option_map (item_joins tree_reader k) (cond b (Some e) None)) w.sort

  pub alias_grows : (e : EntityType) → AliasFinds a s.spaces k i n e → (outer : List Tree_context) →
      option_map (λ (p : Step tree_reader). apply p (stack_of a s outer)) (core_alias_step (context_of a s) k i n) ≡ Some (stack_of a (with_core_item e s) outer)
  alias_grows e w outer =
      ap (option_map (λ (p : Step tree_reader). apply p (stack_of a s outer))) (alias_step_is e w) ∙ λ j. Some (record { top = sym (item_context a s k e w.sort) j; outer = outer; groups = a.core })

  -- ## Causes

  module _ (fs : WasmFeatures) where
    abbrev scope : Checks
    scope = (error.AliasKind, not (is_concrete (kind_of s.kind))) ∷ []

    abbrev found : Checks
    found = if_found (λ x. export_checks k (core_export_of tree_reader n x)) (core_instance_at (context_of a s) i)

    abbrev room : Checks
    room = no_item_room (counts (context_of a s)) k

    abbrev there : Checks
    there = missing (core_instance_at (context_of a s) i)

    abbrev all : Checks
    all = core_alias_checks fs (context_of a s) k i n

    there_same : missing at_index ≡ there
    there_same = sym (missing_mapped (core_tree (trees a.nodes) core_instances) at_index) ∙ ap missing (sym instance_here)

    found_same : (x : ComponentCoreInstanceTypeId) → at_index ≡ Some x → export_checks k (exports_at x) ≡ found
    found_same x e = ap (if_found (λ y. export_checks k (core_export_of tree_reader n y))) (sym (instance_is x e))

    pub alias_free : (x : ComponentCoreInstanceTypeId) → at_index ≡ Some x → IsFree scope → IsFree (sort_needs fs k) → (e : EntityType) → exports_at x ≡ Some e → is_of k e ≡ true → IsFree (no_item_room (room_counts s.spaces) k) → IsFree all
    alias_free x e f g y w v r =
        let no_other : not (is_of k y) ≡ false = ap not v in
        free_both scope (sort_needs fs k ++ (there ++ (found ++ room))) f
        (free_both (sort_needs fs k) (there ++ (found ++ room)) g
        (free_both there (found ++ room) (subst IsFree (ap missing (sym (instance_is x e))) (refl, tt))
        (free_both found room (subst IsFree (found_same x e) (subst (λ (o : Option EntityType). IsFree (export_checks k o)) (sym w) (refl, (no_other, tt)))) (subst IsFree (item_room a s k) r))))

    module _ {M : Type 0} (offset : ℕ) (e : Error M) where
      pub scope_caused : MemoryOrCausedBy scope offset e → MemoryOrCausedBy all offset e
      scope_caused t = caused_more scope all offset e (cause_left scope (sort_needs fs k ++ (there ++ (found ++ room))) e.kind) t

      behind_scope : (cs : Checks) → (Cause cs e.kind → Cause (sort_needs fs k ++ (there ++ (found ++ room))) e.kind) → MemoryOrCausedBy cs offset e → MemoryOrCausedBy all offset e
      behind_scope cs f t = caused_more cs all offset e (λ c. cause_right scope (sort_needs fs k ++ (there ++ (found ++ room))) e.kind (f c)) t

      behind_sort : (cs : Checks) → (Cause cs e.kind → Cause (there ++ (found ++ room)) e.kind) → MemoryOrCausedBy cs offset e → MemoryOrCausedBy all offset e
      behind_sort cs f t = behind_scope cs (λ c. cause_right (sort_needs fs k) (there ++ (found ++ room)) e.kind (f c)) t

      pub sort_caused : MemoryOrCausedBy (sort_needs fs k) offset e → MemoryOrCausedBy all offset e
      sort_caused t = behind_scope (sort_needs fs k) (cause_left (sort_needs fs k) (there ++ (found ++ room)) e.kind) t

      pub index_caused : MemoryOrCausedBy (missing at_index) offset e → MemoryOrCausedBy all offset e
      index_caused t = behind_sort there (cause_left there (found ++ room) e.kind) (subst (λ cs. MemoryOrCausedBy cs offset e) there_same t)

      pub export_caused : (x : ComponentCoreInstanceTypeId) → at_index ≡ Some x → MemoryOrCausedBy (export_checks k (exports_at x)) offset e → MemoryOrCausedBy all offset e
      export_caused x w t = behind_sort found (λ c. cause_right there (found ++ room) e.kind (cause_left found room e.kind c)) (subst (λ cs. MemoryOrCausedBy cs offset e) (found_same x w) t)

      pub room_caused : MemoryOrCausedBy (no_item_room (room_counts s.spaces) k) offset e → MemoryOrCausedBy all offset e
      room_caused t = behind_sort room (λ c. cause_right there (found ++ room) e.kind (cause_right found room e.kind c)) (subst (λ cs. MemoryOrCausedBy cs offset e) (item_room a s k) t)

-- ## The item

module _ (a : Arena) (s s' : Contents) (h : StateStands a s) (live : s.spent ≡ false) (k : ExternalKind) (i : ℕ) (n : Text) (e : EntityType) (w : AliasFinds a s.spaces k i n e) (is : s' ≡ with_core_item e s) where
  pub alias_grew : IsFree (core_alias_checks s.features (context_of a s) k i n) → (outer : List Tree_context) (p : Place) → Grew a a outer p s s' (alias_item (alias.CoreInstanceExport k i n))
  alias_grew f outer p = record {
    names = none_given;
    given = record { resources = tt; identities = tt };
    grown = alias_grows a s h k i n e w outer ∙ λ j. Some (stack_of a (sym is j) outer);
    free = f;
    live = ap (λ (z : Contents). z.spent) is ∙ item_live e s ∙ live;
  }
