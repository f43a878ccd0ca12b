-- An instance may be made by each item in the innermost state, where valid items led to the states.
use Rattle.std.proofs.Common.{ℕ, List}
use Rattle.wcv_syntax.specs.Model.{instantiate, bag}
use Rattle.wcv_syntax.specs.declared.instance.ComponentInstantiationArg.{ComponentInstantiationArg}
use Rattle.wcv_types.specs.Arena.{Arena}
use Rattle.wcv_spaces.specs.Contents.{Contents}
use Rattle.wcv_decls.specs.Declaring.{features_in, innermost, stack_in}
use Rattle.wcv_link.specs.Reached.{IsReached}
use Rattle.wcv_growth.proofs.AsFar.{reached-tidy}
use Rattle.wcv_growth.proofs.MayMake.{may_make}
use Rattle.wcv_instances.specs.ComponentInstances.{ItemMayInstantiate}
use Rattle.wcv_link.specs.Progress.{LastMayInstantiate}
use Rattle.wcv_link.proofs.Reaching.{places, reached_places}

module _ (a : Arena) (ss : List Contents) (h : IsReached a ss) where
  last_made : (j : ℕ) (args : List ComponentInstantiationArg) → ItemMayInstantiate a (innermost ss) (instantiate j args)
  last_made j args = λ t e.
      let r = reached-tidy (features_in ss) (places a ss h) h.place h.position (stack_in a ss) (reached_places a ss h) in
      let m = may_make (stack_in a ss) r.1.0 r.0 r.1.1 j t e args in
      record { owned = m.owned; given = m.given; apart = m.apart; args_alike = m.args_alike; imports_alike = m.imports_alike }

  pub last_may : LastMayInstantiate a ss
  last_may (instantiate j args) = last_made j args
  last_may (bag es) = tt
