-- What aliases find, over ids, and what becomes of the states that are open.
use Rattle.std.specs.Prelude.{ℕ, zero, suc, ◌+◌, ◌<◌, ◌≤◌, nat_lt, List, [], ◌∷◌, ◌++◌, reverse, All, Bool, true, false, not, ◌&&◌, cond, Option, Some, None, option_to_list, slice_get, bytes_eq, ◌≡◌}
use Rattle.std.specs.Map.{lookup}
use Rattle.std.specs.Option.{option_map, option_and_then, unwrap_or}
use Rattle.wcv_core.specs.Limits.{max_size}
use Rattle.wcv_core.specs.declared.error.ErrorKind.TheVariants as error
use Rattle.wcv_syntax.specs.declared.instance.ComponentAlias.{ComponentAlias}
use Rattle.wcv_syntax.specs.declared.instance.ComponentAlias.TheVariants as alias
use Rattle.wcv_syntax.specs.declared.instance.ComponentExternalKind.{ComponentExternalKind}
use Rattle.wcv_syntax.specs.declared.instance.ComponentOuterAliasKind.{ComponentOuterAliasKind}
use Rattle.wcv_syntax.specs.declared.instance.ComponentOuterAliasKind.TheVariants as outer_kind
use Rattle.wcv_types.specs.Arena.{Arena}
use Rattle.wcv_types.specs.Entities.{entity_tree, EntityStands}
use Rattle.wcv_types.specs.Tree.{Text}
use Rattle.wcv_types.specs.Unfold.{Type_tree, trees, tree_at}
use Rattle.wcv_types.specs.declared.ids.ComponentInstanceTypeId.{ComponentInstanceTypeId}
use Rattle.wcv_types.specs.declared.ids.Part.TheVariants as part
use Rattle.wcv_types.specs.declared.item_map.ComponentItem.{ComponentItem}
use Rattle.wcv_types.specs.declared.shapes.ComponentEntityType.{ComponentEntityType}
use Rattle.wcv_types.specs.declared.shapes.ComponentEntityType.TheVariants as entity
use Rattle.wcv_lower.specs.Aliases.{sort_named, export_of, is_charged, outer_admitted, outer_room, alias_step, alias_checks}
use Rattle.wcv_lower.specs.Checks.{Checks, IsFree, if_found, is_none, same_sort}
use Rattle.wcv_lower.specs.Context.{core_types, is_concrete}
use Rattle.wcv_lower.specs.CoreInstances.{test_found}
use Rattle.wcv_lower.specs.Declared.{applied}
use Rattle.wcv_lower.specs.Trees.{tree_reader}
use Rattle.wcv_spaces.specs.Contents.{Contents, SpaceLists, CoreIdStands, core_tree, kind_of, with_core}
use Rattle.wcv_spaces.specs.Looking.{entity_sort, entered}
use Rattle.wcv_spaces.specs.Entering.{room_counts}
use Rattle.wcv_state.specs.Stack.{all_uncharged, stack_on}
use Rattle.wcv_state.specs.declared.outer_aliases.Aliased.{Aliased}
use Rattle.wcv_state.specs.declared.outer_aliases.Aliased.TheVariants as aliased

-- an entity in the space of its sort, and a value is not used yet
abbrev pub with_entity : ComponentEntityType → Contents → Contents
with_entity x s = record s { spaces = entered false x s.spaces }

-- ## An instance's export

-- the entity is of the sort
abbrev pub is_kind : ComponentExternalKind → ComponentEntityType → Bool
is_kind w x = same_sort (sort_named w) (entity_sort x)

-- what is exported under the name
abbrev pub export_id : List (Text × ComponentItem) → Text → Option ComponentEntityType
export_id es n = option_map (λ (i : ComponentItem). i.ty) (lookup (bytes_eq n) es)

-- nothing is, or an entity of another sort
abbrev pub export_id_checks : ComponentExternalKind → Option ComponentEntityType → Checks
export_id_checks w o = (error.UnknownExport, is_none o) ∷ (error.WrongSort, test_found (λ x. not (is_kind w x)) o) ∷ []

-- the instance at the index exports that entity under that name, and it is of the sort
pub record ExportFinds (a : Arena) (s : SpaceLists) (w : ComponentExternalKind) (i : ℕ) (n : Text) (x : ComponentEntityType) : Type 0 where
  pub instance : ComponentInstanceTypeId
  pub at : slice_get s.instances i ≡ Some instance
  pub export : export_of tree_reader n (tree_at a (part.Instance instance)) ≡ Some (entity_tree (trees a.nodes) x)
  pub sort : is_kind w x ≡ true
  pub stands : EntityStands a x

-- ## What stands further out

abbrev pub is_outer : ComponentAlias → Bool
is_outer (alias.Outer w n i) = true
is_outer x = false

-- what stands at the index
abbrev pub outer_id : ComponentOuterAliasKind → SpaceLists → ℕ → Option Aliased
outer_id outer_kind.CoreModule s i = option_map (λ x. aliased.Entity (entity.Module x)) (slice_get s.core_modules i)
outer_id outer_kind.CoreType s i = option_map aliased.CoreType (slice_get s.core_types i)
outer_id outer_kind.Ty s i = option_map (λ x. aliased.Entity (entity.Ty x x)) (slice_get s.types i)
outer_id outer_kind.Component s i = option_map (λ x. aliased.Entity (entity.Component x)) (slice_get s.components i)

-- in the state so far out, the innermost first
abbrev pub outer_in : List Contents → ComponentOuterAliasKind → ℕ → ℕ → Option Aliased
outer_in ss w n i = option_and_then (λ (s : Contents). outer_id w s.spaces i) (slice_get (reverse ss) n)

abbrev pub aliased_tree : Arena → Aliased → Type_tree
aliased_tree a (aliased.CoreType i) = core_tree (trees a.nodes) core_types i
aliased_tree a (aliased.Entity x) = entity_tree (trees a.nodes) x

abbrev pub with_aliased : Aliased → Contents → Contents
with_aliased (aliased.CoreType i) s = with_core core_types i s
with_aliased (aliased.Entity x) s = with_entity x s

-- no core type
abbrev pub is_entity : Aliased → Bool
is_entity (aliased.CoreType i) = false
is_entity (aliased.Entity x) = true

abbrev pub AliasedStands : Arena → Aliased → Type 0
AliasedStands a (aliased.CoreType i) = CoreIdStands a core_types i
AliasedStands a (aliased.Entity x) = EntityStands a x

-- the size that is charged to a state into which it crosses
abbrev pub charge_of : ComponentOuterAliasKind → Contents → Type_tree → ℕ
charge_of w s t = cond (is_charged w && is_concrete (kind_of s.kind)) (tree_reader.size t) 0

-- a resource is free in what crosses into the state, or that is too much in all
abbrev pub crossing_checks : Contents → Type_tree → Checks
crossing_checks s t = (error.ResourceScope, tree_reader.has_free t) ∷ (error.Limit, nat_lt max_size (s.aliased + tree_reader.size t)) ∷ []

-- so of what is aliased
abbrev pub boundary_checks : ComponentOuterAliasKind → Contents → Type_tree → Checks
boundary_checks w s t =
    (error.ResourceScope, is_charged w && (is_concrete (kind_of s.kind) && tree_reader.has_free t))
    ∷ (error.Limit, is_charged w && (is_concrete (kind_of s.kind) && nat_lt max_size (s.aliased + tree_reader.size t))) ∷ []

-- the state right after the target, if there is one between the two
abbrev pub after_target : List Contents → ℕ → Option Contents
after_target ss zero = None
after_target ss (suc n) = slice_get (reverse ss) n

abbrev pub charge_in : Arena → List Contents → ComponentOuterAliasKind → ℕ → Aliased → ℕ
charge_in a ss w n x = unwrap_or (option_map (λ s. charge_of w s (aliased_tree a x)) (after_target ss n)) 0

-- the causes of an outer alias, where that state is the innermost
abbrev pub outer_id_checks : Arena → List Contents → Contents → ComponentOuterAliasKind → ℕ → ℕ → Checks
outer_id_checks a ss s w n i =
    (error.AliasKind, not (is_concrete (kind_of s.kind)) && not (outer_admitted w))
    ∷ (error.OutOfBounds, is_none (outer_in ss w n i))
    ∷ (if_found (λ x. if_found (λ t. boundary_checks w t (aliased_tree a x)) (after_target ss n)) (outer_in ss w n i) ++ outer_room w (room_counts s.spaces))

-- what it finds, and the size that is charged for it
pub record OuterFinds (a : Arena) (ss : List Contents) (w : ComponentOuterAliasKind) (n i : ℕ) (x : Aliased) (size : ℕ) : Type 0 where
  pub found : outer_in ss w n i ≡ Some x
  pub charge : size ≡ charge_in a ss w n x
  -- there is room for that
  pub fits : 0 < size → All (λ s. s.aliased + size ≤ 4294967295) (option_to_list (after_target ss n))
  pub stands : AliasedStands a x

-- ## The states

-- the innermost of the states grew by the alias, which has no cause, and the others stay but for what was aliased into them
pub record AliasedOn (a a' : Arena) (ss ss' : List Contents) (x : ComponentAlias) : Type 0 where
  pub outer : List Contents
  pub outer' : List Contents
  pub old : Contents
  pub new : Contents
  pub was : ss ≡ outer ++ old ∷ []
  pub becomes : ss' ≡ outer' ++ new ∷ []
  pub same : all_uncharged outer' ≡ all_uncharged outer
  pub grown : applied (stack_on a outer old) (alias_step (stack_on a outer old) x) ≡ Some (stack_on a' outer' new)
  pub free : IsFree (alias_checks old.features (stack_on a outer old) x)
  pub live : new.spent ≡ false
