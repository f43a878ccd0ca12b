-- How a stack is reached: before a root's first item, behind an item, and inside a component.
use Rattle.std.proofs.Common.{◌≡◌, ℕ, suc, ◌<◌, List, [], ◌∷◌, length, map, refl, sym, ◌∙◌, subst, arith}
use Rattle.wcv_core.specs.Names.{Place, deeper}
use Rattle.wcv_core.specs.declared.features.WasmFeatures.{WasmFeatures}
use Rattle.wcv_syntax.specs.Model.{Form, Items}
use Rattle.wcv_types.specs.Arena.{Arena}
use Rattle.wcv_types.specs.Entities.{entry_trees}
use Rattle.wcv_types.specs.Sets.{identities}
use Rattle.wcv_types.specs.Standing.{Extends}
use Rattle.wcv_types.specs.Unfold.{trees}
use Rattle.wcv_lower.specs.Checks.{IsFree}
use Rattle.wcv_lower.specs.Context.{concrete}
use Rattle.wcv_lower.specs.Given.{GivenNames, names_of, none_given, both_given, Numbers, no_numbers, AtMost, GivesAt}
use Rattle.wcv_lower.specs.Items.{component_checks}
use Rattle.wcv_lower.specs.Mapped.{map_stack}
use Rattle.wcv_lower.specs.Names.{names_by_place, Under, SameNames}
use Rattle.wcv_lower.specs.Renamed.{Renaming, renaming}
use Rattle.wcv_lower.proofs.DeclaredGlued.{first_same, second_same}
use Rattle.wcv_lower.proofs.Given.{gives_both, gives_wider}
use Rattle.wcv_lower.proofs.ItemLaws.{read_item-agrees}
use Rattle.wcv_lower.proofs.Naming.{to_places, renamed_places}
use Rattle.wcv_spaces.specs.Contents.{names, Contents, stack_of, ids, core_ids, sides, id_tree, core_tree, empty_state}
use Rattle.wcv_spaces.specs.Promises.{numbers_of}
use Rattle.wcv_spaces.specs.declared.kind.ComponentKind.TheVariants.{Component}
use Rattle.wcv_spaces.proofs.Sides.{each_space, each_core, each_side}
use Rattle.wcv_decls.specs.Declaring.{features_in, stack_in, Opened}
use Rattle.wcv_decls.proofs.Opening.{opened_stack}
use Rattle.wcv_decls.proofs.ReadingOn.{grown_numbers}
use Rattle.wcv_growth.specs.Reached.{Reached, at_start, behind, within, Earlier}
use Rattle.wcv_growth.specs.Valid.{start}
use Rattle.wcv_growth.proofs.ReachedNames.{not_earlier, earlier_still, earlier_then, earlier_inside, reached-agrees, reached-renamed}
use Rattle.wcv_growth.proofs.ValidRead.{valid_item-agrees}
use Rattle.wcv_link.specs.ItemCalls.{ItemRead}
use Rattle.wcv_link.specs.Reached.{IsReached}

-- ## The beginning

pub empty_stack : (a : Arena) (features : WasmFeatures) → a.core ≡ [] → stack_of a (empty_state Component features) [] ≡ start
empty_stack a features e = λ j. record {
  top = record start.top {
    core = λ k. each_core (λ i. map (core_tree (trees a.nodes) i) (core_ids i (empty_state Component features).spaces) ≡ []) refl refl refl refl refl refl refl refl k j;
    space = λ k. each_space (λ i. map (id_tree (trees a.nodes) i) (ids i (empty_state Component features).spaces) ≡ []) refl refl refl refl refl k j;
    side = λ d. each_side (λ e. entry_trees (trees a.nodes) (sides (empty_state Component features) e) ≡ []) refl refl d j;
    named = λ d. each_side (λ e. identities (names (empty_state Component features) e) ≡ []) refl refl d j;
  };
  outer = [];
  groups = e j;
}

pub reached_start : (a : Arena) (ss : List Contents) (features : WasmFeatures) → a.core ≡ [] → ss ≡ empty_state Component features ∷ [] → IsReached a ss
reached_start a ss features g e =
    subst (IsReached a) (sym e) (record {
      place = [];
      position = 0;
      names = none_given;
      given = record { resources = tt; identities = tt };
      reached = subst (Reached features (names_of none_given) [] 0) (sym (empty_stack a features g)) at_start;
    })

-- ## One step further

no_fewer : (b : Numbers) → AtMost no_numbers b
no_fewer b = record { resources = omega arith; nodes = omega arith; stamps = omega arith }

-- behind an item, by the names so far and those that were given for it
module _ (a b : Arena) (ss ss' : List Contents) (f : Form) (h : IsReached a ss) (grown : Extends a b) (same : features_in ss' ≡ features_in ss)
    (read : ItemRead (features_in ss) (deeper h.place h.position) (stack_in a ss) f (stack_in b ss') (numbers_of a) (numbers_of b)) where
  abbrev w : Place
  w = h.place

  abbrev k : ℕ
  k = h.position

  abbrev all : GivenNames
  all = both_given h.names read.0

  all_given : GivesAt (Earlier w (suc k)) no_numbers (numbers_of b) all
  all_given =
      gives_both (Earlier w k) (Under (deeper w k)) (Earlier w (suc k)) no_numbers (numbers_of a) (numbers_of b) (no_fewer (numbers_of a)) (grown_numbers a b grown) (not_earlier w k) (earlier_still w k) (earlier_then w k)
      h.names read.0 h.given read.1

  before_same : SameNames (Earlier w k) (names_of h.names) (names_of all)
  before_same = first_same (Earlier w k) (Under (deeper w k)) no_numbers (numbers_of a) (numbers_of b) (not_earlier w k) h.names read.0 h.given read.1

  here_same : SameNames (Under (deeper w k)) (names_of read.0) (names_of all)
  here_same = second_same (Earlier w k) (Under (deeper w k)) no_numbers (numbers_of a) (numbers_of b) (not_earlier w k) h.names read.0 h.given read.1

  pub reached_behind : IsReached b ss'
  reached_behind = record {
    place = w;
    position = suc k;
    names = all;
    given = all_given;
    reached = subst (λ (fs : WasmFeatures). Reached fs (names_of all) w (suc k) (stack_in b ss')) (sym same)
        (behind w k (stack_in a ss) (stack_in b ss') f (reached-agrees (features_in ss) (names_of h.names) (names_of all) w k (stack_in a ss) before_same h.reached)
        (valid_item-agrees (features_in ss) (names_of read.0) (names_of all) (deeper w k) (stack_in a ss) f here_same read.2)
        (read_item-agrees (names_of read.0) (names_of all) (deeper w k) here_same (features_in ss) (stack_in a ss) f ∙ read.3));
  }

-- so by places
module _ (a : Arena) (ss : List Contents) (h : IsReached a ss) where
  abbrev pub places : Renaming
  places = to_places (Earlier h.place h.position) no_numbers (numbers_of a) h.names h.given

  pub reached_places : Reached (features_in ss) names_by_place h.place h.position (map_stack (renaming places) (stack_in a ss))
  reached_places =
      reached-renamed (features_in ss) (names_of h.names) names_by_place places (λ p. renamed_places (Earlier h.place h.position) no_numbers (numbers_of a) h.names h.given (Under p)) h.place h.position (stack_in a ss) h.reached

-- inside a component
pub reached_within : (a : Arena) (ss ts : List Contents) (is : Items) → 0 < length ss → IsReached a ss → Opened concrete a ss ts → IsFree (component_checks (stack_in a ss) is) → IsReached a ts
reached_within a ss ts is l h o free = record {
  place = deeper h.place h.position;
  position = 0;
  names = h.names;
  given = gives_wider (Earlier h.place h.position) (Earlier (deeper h.place h.position) 0) no_numbers (numbers_of a) h.names (earlier_inside h.place h.position) h.given;
  reached = subst (λ (fs : WasmFeatures). Reached fs (names_of h.names) (deeper h.place h.position) 0 (stack_in a ts)) (sym o.features)
      (subst (Reached (features_in ss) (names_of h.names) (deeper h.place h.position) 0) (sym (opened_stack concrete a ss ts l o)) (within h.place h.position (stack_in a ss) is h.reached free));
}
