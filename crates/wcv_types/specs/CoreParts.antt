-- What core modules and core instances export, by their parts.
use Rattle.std.specs.Prelude.{List, [], ◌∷◌, ◌++◌, map, Option, Some, None}
use Rattle.wcv_core.specs.declared.core_types.EntityType.{EntityType}
use Rattle.wcv_types.specs.Tree.{Text, Head, core_item, here, core_export, Tree, Parts, none, part, head, parts}

abbrev pub item_at : {R I : Type 0} → Head R I → Option EntityType
item_at (core_item e) = Some e
item_at h = None

-- what stands under a name, before others
abbrev pub before : {K X : Type 0} → K → Option X → List (K × X) → List (K × X)
before k None es = es
before k (Some e) es = (k, e) ∷ es

abbrev pub core_exports_in : {R I : Type 0} → Parts R I → List (Text × EntityType)
core_exports_in none = []
core_exports_in (part (core_export n) t ps) = before n (item_at (head t)) (core_exports_in ps)
core_exports_in (part r t ps) = core_exports_in ps

-- a core instance exports what its module exports, or what it lists, and a core module what stands in its type
abbrev pub instance_exports_in : {R I : Type 0} → Parts R I → List (Text × EntityType)
instance_exports_in none = []
instance_exports_in (part here t ps) = core_exports_in (parts t) ++ instance_exports_in ps
instance_exports_in (part (core_export n) t ps) = before n (item_at (head t)) (instance_exports_in ps)
instance_exports_in (part r t ps) = instance_exports_in ps

abbrev pub instance_exports : {R I : Type 0} → Tree R I → List (Text × EntityType)
instance_exports t = instance_exports_in (parts t)

-- the types of that
abbrev pub exported_items : {R I : Type 0} → Tree R I → List EntityType
exported_items t = map (λ e. e.1) (instance_exports t)
