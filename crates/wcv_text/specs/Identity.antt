-- How nodes are known.
use Rattle.wcv_core.specs.Names.{number, stamp}
use Rattle.wcv_types.specs.Identity as tree
use Rattle.wcv_text.specs.declared.identity.Identity.{Identity}
use Rattle.wcv_text.specs.declared.identity.Identity.TheVariants as id

-- as trees have it
abbrev pub known : Identity → tree.Identity
known (id.Node k) = tree.of_node (number k)
known (id.Reference r) = tree.of_reference (number r.resource.index) (stamp r.stamp)
