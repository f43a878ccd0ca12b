use Rattle.std.proofs.Common.{ap, arith}
use Rattle.wcv_types.specs.Arena.{Arena}
use Rattle.wcv_types.specs.declared.ids.AliasableResourceId.{AliasableResourceId}
use Rattle.wcv_types.specs.declared.ids.Part.TheVariants as p
use Rattle.wcv_call_tests.proofs.MadeOf.{given_extends, given_stands, later}
use Rattle.wcv_call_tests.proofs.shared.holds.Goals as goal

pub nested-requires : goal.nested-requires
nested-requires c = given_stands c.args.types.now.types c.alloc_resource_id.new.self c.in_ok-old.old c.in_ok-old.ensures.made c.in_ok-old.ensures.last

pub becomes-requires-clause-made : goal.becomes-requires-clause-made
becomes-requires-clause-made c = later c.taking.new.types c.alloc_resource_id-2.new.self 21 (p.Func c.in_ok-id.id) (given_extends c.taking.new.types c.alloc_resource_id-2.new.self c.in_ok-new.ensures.made) c.in_ok-id.ensures

pub becomes-requires-clause-new : goal.becomes-requires-clause-new
becomes-requires-clause-new c =
    omega (arith, ap (λ (a : Arena). a.resources) c.in_ok-new.ensures.made, ap (λ (x : AliasableResourceId). x.resource.index) c.in_ok-new.ensures.last)
