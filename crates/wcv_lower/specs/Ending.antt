-- The type of a component or of a declared type, from the context at its end, and why the end is refused.
use Rattle.std.specs.Prelude.{ℕ, List, [], ◌∷◌, ◌++◌, map, Bool, false, not, ◌||◌, cond, Option, Some, None}
use Rattle.std.specs.Option.{option_map, option_and_then}
use Rattle.wcv_core.specs.declared.core_types.ValType.{ValType}
use Rattle.wcv_core.specs.declared.error.ErrorKind.TheVariants as kind
use Rattle.wcv_lower.specs.Checks.{Checks, is_none}
use Rattle.wcv_lower.specs.Context.{Kind, concrete, declares_instance, declares_component, Context, importing, exporting}
use Rattle.wcv_lower.specs.Defined.{is_empty}
use Rattle.wcv_lower.specs.Marks.{unused_checks}
use Rattle.wcv_lower.specs.Readers.{Reader, Named, New_node, instance_node, component_node}

module _ (X : Reader) where
  -- the resource is free in an entry
  abbrev pub is_free_among : X.Resource → Named X → Bool
  is_free_among r [] = false
  is_free_among r (e ∷ es) = X.is_free r e.1 || is_free_among r es

  -- one of the resources is
  abbrev pub any_free : List (X.Resource × Option ValType) → Named X → Bool
  any_free [] es = false
  any_free (d ∷ ds) es = is_free_among d.0 es || any_free ds es

  -- one that is free in an export is kept with its first path there, and needs one
  abbrev pub keep : X.Resource → Named X → List (X.Resource × List ℕ) → Option (List (X.Resource × List ℕ))
  keep r es kept = cond (is_free_among r es) (option_map (λ p. (r, p) ∷ kept) (X.first_path r es)) (Some kept)

  -- those that are free in an export, in order
  abbrev pub kept : List (X.Resource × Option ValType) → Named X → Option (List (X.Resource × List ℕ))
  kept [] es = Some []
  kept (d ∷ ds) es = option_and_then (keep d.0 es) (kept ds es)

-- the node, with those defined resources
abbrev pub component_of : {X : Reader} → Context X → List (X.Resource × List ℕ) → New_node X
component_of c ds = component_node c.imported ds (c.side importing) (c.side exporting)

-- where no defined resource is free in an import, and each that is free in an export has a path there
abbrev pub component_made : {X : Reader} → Context X → Option (New_node X)
component_made {X} c = cond (any_free X c.defined (c.side importing)) None (option_map (component_of c) (kept X c.defined (c.side exporting)))

-- the type, as its node is made
abbrev pub type_at_end : {X : Reader} → (New_node X → X.Entry) → Context X → Option X.Entry
type_at_end build c = option_map build (component_made c)

-- a defined resource is free in an import, or one that is free in an export has no path there
abbrev pub end_checks : {X : Reader} → Context X → Checks
end_checks {X} c = (kind.ResourceScope, any_free X c.defined (c.side importing)) ∷ (kind.ResourceScope, is_none (kept X c.defined (c.side exporting))) ∷ []

-- the end of a component that is read: some value is not used, or so
abbrev pub component_end_checks : {X : Reader} → Context X → Checks
component_end_checks c = unused_checks c ++ end_checks c

-- ## Declared types

-- an instance type owns the resources that its context defines
abbrev pub instance_made : {X : Reader} → Context X → New_node X
instance_made c = instance_node (map (λ d. d.0) c.defined) (c.side exporting)

-- the node of what is declared
abbrev pub declared_made : {X : Reader} → Kind → Context X → Option (New_node X)
declared_made declares_instance c = Some (instance_made c)
declared_made declares_component c = component_made c
declared_made concrete c = component_made c

-- an instance type has no imports
abbrev pub declared_end_checks : {X : Reader} → Kind → Context X → Checks
declared_end_checks declares_instance c = (kind.Shape, not (is_empty (c.side importing))) ∷ []
declared_end_checks declares_component c = end_checks c
declared_end_checks concrete c = component_end_checks c
