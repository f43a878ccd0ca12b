-- What was read before stays where it is: what growth keeps of the contexts that are open.
use Rattle.std.specs.List.{AllZip}
use Rattle.std.specs.Prelude.{true, List, ◌++◌, Some, ◌≡◌}
use Rattle.wcv_core.specs.declared.core_types.ValType.{ValType}
use Rattle.wcv_lower.specs.Context.{Space, Core_space, Side}
use Rattle.wcv_lower.specs.Trees.{Tree_context, Tree_stack}

-- the one list begins the other
abbrev pub IsPrefix : {X : Type 0} → List X → List X → Type 0
IsPrefix {X} xs ys = (more : List X) × (ys ≡ xs ++ more)

-- what stood in the context still stands, in order, with more behind it; the marks of used values are left aside
pub record StillStands (c d : Tree_context) : Type 0 where
  pub kind : d.kind ≡ c.kind
  pub space : (k : Space) → IsPrefix (c.space k) (d.space k)
  pub core : (k : Core_space) → IsPrefix (c.core k) (d.core k)
  pub side : (i : Side) → IsPrefix (c.side i) (d.side i)
  -- the resources that it lists, and the types that it names
  pub imported : IsPrefix c.imported d.imported
  pub defined : IsPrefix c.defined d.defined
  pub named : (i : Side) → IsPrefix (c.named i) (d.named i)
  -- what is said once stays
  pub context_type : (v : ValType) → c.context_type ≡ Some v → d.context_type ≡ Some v
  pub started : c.started ≡ true → d.started ≡ true

-- so in each context of the stack, and groups of core types joined behind those that were read
pub record OnlyGrew (s t : Tree_stack) : Type 0 where
  pub top : StillStands s.top t.top
  pub outer : AllZip StillStands s.outer t.outer
  pub groups : IsPrefix s.groups t.groups
