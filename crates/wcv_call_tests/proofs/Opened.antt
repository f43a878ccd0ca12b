-- A state with nothing in it, and types that join the innermost of states.
use Rattle.std.proofs.Common.{◌≡◌, List, [], ◌∷◌, map, refl, sym, subst, arith, true}
use Rattle.std.proofs.lemmas.List.Elements.{All-nil, All-push}
use Rattle.wcv_core.specs.declared.features.WasmFeatures.{WasmFeatures}
use Rattle.wcv_syntax.specs.Model.{Type_form}
use Rattle.wcv_types.specs.Arena.{Arena}
use Rattle.wcv_types.specs.Entities.{entry_trees}
use Rattle.wcv_types.specs.Sets.{identities}
use Rattle.wcv_types.specs.Unfold.{trees}
use Rattle.wcv_lower.specs.Context.{empty}
use Rattle.wcv_lower.specs.Owned.{IsCalm}
use Rattle.wcv_lower.specs.Trees.{Tree_stack, tree_reader}
use Rattle.wcv_lower.proofs.Calm.{calm_start}
use Rattle.wcv_spaces.specs.Contents.{Contents, empty_state, kind_of, ids, core_ids, id_tree, core_tree, sides, names, stack_of}
use Rattle.wcv_spaces.specs.Promises.{numbers_of}
use Rattle.wcv_spaces.specs.declared.kind.ComponentKind.{ComponentKind}
use Rattle.wcv_spaces.proofs.Keeping.{empty_stands}
use Rattle.wcv_spaces.proofs.Sides.{each_side, each_space, each_core}
use Rattle.wcv_decls.specs.Declaring.{innermost, AreReady}
use Rattle.wcv_decls.specs.Stack.{IsOpen, AreCalm, DeclaresOn, KeepsOn}
use Rattle.wcv_decls.proofs.ChargedStates.{still_ready}
use Rattle.wcv_decls.proofs.InnermostStates.{stack_at}

-- ## A state with nothing in it

module _ (a : Arena) (k : ComponentKind) (f : WasmFeatures) where
  abbrev start : Tree_stack
  start = record { top = empty tree_reader (kind_of k); outer = []; groups = a.core }

  empty_stack : stack_of a (empty_state k f) [] ≡ start
  empty_stack = λ j. record start {
    top = record start.top {
      core = λ i. each_core (λ x. map (core_tree (trees a.nodes) x) (core_ids x (empty_state k f).spaces) ≡ []) refl refl refl refl refl refl refl refl i j;
      space = λ i. each_space (λ x. map (id_tree (trees a.nodes) x) (ids x (empty_state k f).spaces) ≡ []) refl refl refl refl refl i j;
      side = λ d. each_side (λ e. entry_trees (trees a.nodes) (sides (empty_state k f) e) ≡ []) refl refl d j;
      named = λ d. each_side (λ e. identities (names (empty_state k f) e) ≡ []) refl refl d j;
    };
  }

  empty_ready : AreReady a (empty_state k f ∷ [])
  empty_ready = record {
    some = omega arith;
    each = All-push (IsOpen a) [] (empty_state k f) (All-nil (IsOpen a)) (record { live = refl; stands = empty_stands a k f });
    calm = subst (IsCalm (numbers_of a)) (sym empty_stack) (calm_start (numbers_of a) (kind_of k) a.core);
  }

  pub alone_ready : (ss : List Contents) → ss ≡ empty_state k f ∷ [] → AreReady a ss
  alone_ready ss e = subst (AreReady a) (sym e) empty_ready

-- ## A type that joined

module _ (a b : Arena) (ss ss' : List Contents) (t : Type_form) (h : AreReady a ss) (d : DeclaresOn true a b [] ss ss' t) (keeps : KeepsOn a b ss ss') (calm : AreCalm b ss') where
  pub joined : AreReady b ss'
  joined =
      (still_ready a b ss ss' h keeps d.outer d.outer' d.old d.new d.was d.becomes d.same d.declared.live
      (subst (IsCalm (numbers_of b)) (sym (stack_at b ss' d.outer' d.new d.becomes)) (calm d.outer' d.new d.becomes))).ready
