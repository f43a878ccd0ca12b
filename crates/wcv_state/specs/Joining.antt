-- Instances that join a state.
use Rattle.std.specs.Prelude.{List, false, ◌≡◌}
use Rattle.wcv_types.specs.Arena.{Arena}
use Rattle.wcv_lower.specs.Instances.{instance_joins}
use Rattle.wcv_lower.specs.Step.{apply}
use Rattle.wcv_lower.specs.Trees.{Tree_context}
use Rattle.wcv_instantiate.specs.Instantiations.{brought_of}
use Rattle.wcv_spaces.specs.Contents.{Contents, stack_of}
use Rattle.wcv_instantiate.specs.declared.instances.NewInstance.{NewInstance}

-- it joined the instances of a state, and its resources are defined
pub record InstanceJoined (a : Arena) (s s' : Contents) (m : NewInstance) : Type 0 where
  pub joined : (outer : List Tree_context) → stack_of a s' outer ≡ apply (instance_joins (brought_of a m)) (stack_of a s outer)
  pub live : s'.spent ≡ false
