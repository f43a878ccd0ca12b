use Rattle.std.proofs.Common.{◌∷◌, [], refl}
use Rattle.std.proofs.lemmas.List.Elements.{All-head}
use Rattle.wcv_core.specs.Names.{deeper}
use Rattle.wcv_spaces.specs.Contents.{empty_state}
use Rattle.wcv_state.specs.Stack.{IsOpen}
use Rattle.wcv_spaces.specs.declared.kind.ComponentKind.TheVariants.{Component}
use Rattle.wcv_link.proofs.Alone.{begins}
use Rattle.wcv_link.proofs.Driving.{reached_grown}
use Rattle.wcv_link.proofs.Making.{last_may}
use Rattle.wcv_link.proofs.Reaching.{reached_behind, reached_start}
use Rattle.wcv_link.proofs.driving_laws.states_that_are_reached_may_instantiate.Goals as goal

pub returns : goal.returns
returns c = record {
  first = λ a features e. reached_start a (empty_state Component features ∷ []) features e refl;
  usable = λ a features e. All-head (IsOpen a) (empty_state Component features) [] (begins a features e (empty_state Component features ∷ []) refl).usable;
  grown = λ a b s s' f h e left keeps grew. reached_grown a b s s' f h e left keeps grew;
  read = λ a b ss ss' f h g same r. reached_behind a b ss ss' f h g same (r (deeper h.place h.position));
  may = λ a ss i h. last_may a ss h i;
}
