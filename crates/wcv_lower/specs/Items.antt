-- What an item does to the contexts that are open, at its place, and why it is refused: a declared type is read declaration by
-- declaration, a component item by item, all else in one step.
use Rattle.std.specs.Prelude.{ℕ, zero, suc, ◌++◌, true, Option, Some, ◌≡◌}
use Rattle.std.specs.Option.{option_and_then}
use Rattle.wcv_core.specs.Limits.{max_list}
use Rattle.wcv_core.specs.Names.{Place, deeper}
use Rattle.wcv_core.specs.declared.features.WasmFeatures.{WasmFeatures}
use Rattle.wcv_syntax.specs.Model.{Form, type_item, component_item, Items, no_items, next_item}
use Rattle.wcv_types.specs.Tree.{is_component}
use Rattle.wcv_lower.specs.Checks.{Checks, IsFree, too_many, no_room}
use Rattle.wcv_lower.specs.Context.{Stack, concrete, counts}
use Rattle.wcv_lower.specs.Declared.{Makers, inside, ended, full_stack, read_type, declared_checks, declared_left}
use Rattle.wcv_lower.specs.Ending.{component_end_checks}
use Rattle.wcv_lower.specs.Growth.{grow, checks}
use Rattle.wcv_lower.specs.Readers.{Reader}

-- the stack behind the item at place p, and behind items at p of which the first has position n; undefined where growth is
abbrev mutual
  pub read_item : {X : Reader} → WasmFeatures → Makers X → Place → Stack X → Form → Option (Stack X)
  read_item fs mk p s (type_item t) = read_type fs mk p s t
  read_item fs mk p s (component_item is end) = option_and_then (ended concrete (mk p)) (read_items fs mk p 0 (inside concrete s) is)
  read_item fs mk p s f = grow fs (mk p) s f

  pub read_items : {X : Reader} → WasmFeatures → Makers X → Place → ℕ → Stack X → Items → Option (Stack X)
  read_items fs mk p n s no_items = Some s
  read_items fs mk p n s (next_item at f is) = option_and_then (λ t. read_items fs mk p (suc n) t is) (read_item fs mk (deeper p n) s f)

-- ## Causes

abbrev pub item_count : Items → ℕ
item_count no_items = zero
item_count (next_item at f is) = suc (item_count is)

-- of a component, before its first item: no room for one more context on the stack or for one more component, or too many items
abbrev pub component_checks : {X : Reader} → Stack X → Items → Checks
component_checks s is = full_stack s ++ (no_room (counts s.top) is_component ++ too_many max_list (item_count is))

-- its own causes; those of items inside it and of their end are not among them
abbrev pub item_causes : {X : Reader} → WasmFeatures → Makers X → Place → Stack X → Form → Checks
item_causes fs mk p s (type_item t) = declared_checks true fs mk p s t ++ declared_left t
item_causes fs mk p s (component_item is end) = component_checks s is
item_causes fs mk p s f = checks fs (mk p) s f

-- where it is a component, its items lead to an end without a cause
abbrev pub EndsFree : {X : Reader} → WasmFeatures → Makers X → Place → Stack X → Form → Type 0
EndsFree {X} fs mk p s (component_item is end) = (t : Stack X) × (read_items fs mk p 0 (inside concrete s) is ≡ Some t) × IsFree (component_end_checks t.top)
EndsFree fs mk p s f = Unit {0}
