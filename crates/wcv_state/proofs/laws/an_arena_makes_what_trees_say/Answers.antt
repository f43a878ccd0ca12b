use Rattle.wcv_spaces.proofs.Given.{again_names, again_given, resource_names, resource_given, node_names, node_given, node_name}
use Rattle.wcv_state.proofs.SlotMakers.{makes_again, makes_resource, makes_instance, makes_node}
use Rattle.wcv_lower.specs.Given.{names_of}
use Rattle.wcv_state.proofs.laws.an_arena_makes_what_trees_say.Goals as goal

pub returns-clause-again : goal.returns-clause-again
returns-clause-again c = λ a b p r d h w. (again_names a r p, again_given a b p r h w.arena, makes_again a b p r d h w)

pub returns-clause-resource : goal.returns-clause-resource
returns-clause-resource c = λ a b p e f. (resource_names a p, resource_given a b p e f, makes_resource a b p e f)

pub returns-clause-node : goal.returns-clause-node
returns-clause-node c = λ a b p n k t. (node_names a p, node_given a b p k, makes_node a b p (names_of (node_names a p)) n (node_name a p) t)

pub returns-clause-instance : goal.returns-clause-instance
returns-clause-instance c = λ a b p names i r rs own rs_are h t. makes_instance a b p names i r rs own rs_are h t
