-- The resources that a node owns are led to.
use Rattle.std.specs.Prelude.{ℕ, List, All}
use Rattle.wcv_core.specs.Names.{Name}
use Rattle.wcv_types.specs.Tree.{Extern_name, Head, instance, component, Tree, node, Parts, exports_in, imports_in}
use Rattle.wcv_types.specs.Paths.{PathLeadsTo}

-- some path leads to the resource
abbrev pub HasPath : List (Extern_name × Tree Name Name) → Name → Type 0
HasPath es r = (p : List ℕ) × PathLeadsTo p r es

-- own resources of an instance stand in its exports; those of a component stand where their paths lead
abbrev pub HeadLed : Head Name Name → Parts Name Name → Type 0
HeadLed (instance i own) ps = All (HasPath (exports_in ps)) own
HeadLed (component i ins outs) ps = All (λ p. PathLeadsTo p.1 p.0 (imports_in ps)) ins × All (λ p. PathLeadsTo p.1 p.0 (exports_in ps)) outs
HeadLed h ps = Unit {0}

abbrev pub Led : Tree Name Name → Type 0
Led (node h ps) = HeadLed h ps
