-- A state that is new on top of the others.
use Rattle.std.proofs.Common.{◌≡◌, suc, ◌<◌, ◌+◌, List, [], ◌∷◌, ◌++◌, length, map, refl, sym, ◌∙◌, ap, subst, arith}
use Rattle.std.proofs.lemmas.List.{length-map, length-append, length-reverse}
use Rattle.std.proofs.lemmas.List.Elements.{All-push}
use Rattle.wcv_core.specs.declared.features.WasmFeatures.{WasmFeatures}
use Rattle.wcv_types.specs.Arena.{Arena}
use Rattle.wcv_types.specs.Entities.{entry_trees}
use Rattle.wcv_types.specs.Sets.{identities}
use Rattle.wcv_types.specs.Unfold.{trees}
use Rattle.wcv_lower.specs.Context.{Kind, empty}
use Rattle.wcv_lower.specs.Declared.{inside}
use Rattle.wcv_lower.specs.Owned.{IsCalm}
use Rattle.wcv_lower.specs.Trees.{tree_reader}
use Rattle.wcv_lower.proofs.Calm.{calm_inside}
use Rattle.wcv_spaces.specs.Contents.{Contents, empty_state, kind_of, ids, core_ids, id_tree, core_tree, sides, names, context_of}
use Rattle.wcv_spaces.specs.Promises.{numbers_of}
use Rattle.wcv_spaces.specs.declared.kind.ComponentKind.{ComponentKind}
use Rattle.wcv_spaces.proofs.Keeping.{empty_stands}
use Rattle.wcv_spaces.proofs.Sides.{each_side, each_space, each_core}
use Rattle.wcv_decls.specs.Declaring.{innermost, around, features_in, stack_in, AreReady, Opened}
use Rattle.wcv_decls.specs.Stack.{IsOpen, contexts_around}
use Rattle.wcv_decls.proofs.Closing.{nearest}
use Rattle.wcv_decls.proofs.InnermostStates.{innermost_at, around_at, parted, some_at}

-- its context is empty
empty_context : (a : Arena) (k : ComponentKind) (fs : WasmFeatures) → context_of a (empty_state k fs) ≡ empty tree_reader (kind_of k)
empty_context a k fs = λ j. record (empty tree_reader (kind_of k)) {
  core = λ i. each_core (λ x. map (core_tree (trees a.nodes) x) (core_ids x (empty_state k fs).spaces) ≡ []) refl refl refl refl refl refl refl refl i j;
  space = λ i. each_space (λ x. map (id_tree (trees a.nodes) x) (ids x (empty_state k fs).spaces) ≡ []) refl refl refl refl refl i j;
  side = λ d. each_side (λ e. entry_trees (trees a.nodes) (sides (empty_state k fs) e) ≡ []) refl refl d j;
  named = λ d. each_side (λ e. identities (names (empty_state k fs) e) ≡ []) refl refl d j;
}

-- the contexts of states, the nearest first
pub contexts_parted : (a : Arena) (ss : List Contents) → 0 < length ss → contexts_around a ss ≡ context_of a (innermost ss) ∷ contexts_around a (around ss)
contexts_parted a ss h = ap (contexts_around a) (parted ss h) ∙ nearest a (around ss) (innermost ss)

-- the stack with it on top
pub opened_stack : (k : Kind) (a : Arena) (ss ss' : List Contents) → 0 < length ss → Opened k a ss ss' → stack_in a ss' ≡ inside k (stack_in a ss)
opened_stack k a ss ss' h w =
    let o : contexts_around a (around ss') ≡ context_of a (innermost ss) ∷ contexts_around a (around ss) = ap (contexts_around a) w.around ∙ contexts_parted a ss h in
    λ j. record { top = w.empty j; outer = o j; groups = a.core }

module _ (a : Arena) (k : ComponentKind) (ss : List Contents) (h : AreReady a ss) where
  abbrev pub opened : List Contents
  opened = ss ++ empty_state k (features_in ss) ∷ []

  pub is_opened : Opened (kind_of k) a ss opened
  is_opened = record {
    around = around_at ss (empty_state k (features_in ss));
    empty = ap (context_of a) (innermost_at ss (empty_state k (features_in ss))) ∙ empty_context a k (features_in ss);
    features = ap (λ (s : Contents). s.features) (innermost_at ss (empty_state k (features_in ss)));
  }

  pub opened_ready : AreReady a opened
  opened_ready = record {
    some = some_at ss (empty_state k (features_in ss));
    each = All-push (IsOpen a) ss (empty_state k (features_in ss)) h.each (record { live = refl; stands = empty_stands a k (features_in ss) });
    calm = subst (IsCalm (numbers_of a)) (sym (opened_stack (kind_of k) a ss opened h.some is_opened)) (calm_inside (numbers_of a) (kind_of k) (stack_in a ss) h.calm);
  }

-- how many would be open
pub open_count : (a : Arena) (ss : List Contents) → 0 < length ss → suc (suc (length (stack_in a ss).outer)) ≡ length ss + 1
open_count a ss h =
    let l : length (contexts_around a (around ss)) ≡ length (around ss) = length-reverse (map (context_of a) (around ss)) ∙ length-map (around ss) (context_of a) in
    let m : length ss ≡ length (around ss) + 1 = ap length (parted ss h) ∙ length-append (around ss) (innermost ss ∷ []) in
    omega (arith, l, m)
