-- Types that are seen alike have the same flat types, and functions the same core types; a stream is seen as one, and a future too.
use Rattle.std.proofs.Common.{◌≡◌, ◌∙◌, List, [], ◌++◌, true, refl, sym, ap}
use Rattle.wcv_core.specs.CoreForm.{CompositeForm, func_form}
use Rattle.wcv_core.specs.Names.{Name}
use Rattle.wcv_core.specs.declared.core_types.ValType.{ValType}
use Rattle.wcv_core.specs.declared.core_types.ValType.TheVariants as core
use Rattle.wcv_types.specs.Flat.{Flat_words, joined, former_flat, flat, flat_all, flat_cases}
use Rattle.wcv_types.specs.Rename.{no_identity}
use Rattle.wcv_types.specs.Seen.{Within, under, seen, seen_parts}
use Rattle.wcv_types.specs.Tree.{here, label, nothing, primitive, resource, defined, func, instance, component, type_entity, core_module, core_instance, core_item, named, stream_of, future_of, Tree, node, Parts, none, part, is_value, sort, parts}
use Rattle.wcv_types.specs.Tree as tree
use Rattle.wcv_types.specs.Unfold.{Type_tree}
use Rattle.wcv_flat.specs.Flat.{pointer_type, core_words}
use Rattle.wcv_flat.specs.RowTypes.{taking}
use Rattle.wcv_flat.specs.Signature.{params_in, result_in, core_params, core_results, core_type}
use Rattle.wcv_flat.specs.declared.options.Abi.{Abi}
use Rattle.wcv_flat.specs.declared.options.Concurrency.{Concurrency}
use Rattle.wcv_flat.specs.declared.options.PtrSize.{PtrSize}
use Rattle.wcv_flat.proofs.Renamed.{flat-rename, core_type_renamed}
use Rattle.wcv_lower.specs.Outlines.{outline, is_stream, is_future}

abbrev signed : PtrSize → Abi → Concurrency → List ValType → List ValType → CompositeForm
signed s a k ps rs = func_form (core_params (pointer_type s) a k ps rs) (core_results core.I32 (pointer_type s) a k rs)

module _ {A : Type 0} where
  -- ## Flat types

  module _ {X : Type 0} (w : Flat_words X) where
    mutual
      flat-seen : (f : Name → Within A) (t : Type_tree) → flat w (seen f t) ≡ flat w t
      flat-seen f (node (primitive q) ps) = refl
      flat-seen f (node (defined i (named q)) ps) = refl
      flat-seen f (node (defined i k) ps) = λ j. former_flat w k (all-seen (under (defined i k) f) ps j) (cases-seen (under (defined i k) f) [] ps j)
      flat-seen f (node h ps) = refl

      all-seen : (f : Name → Within A) (ps : Parts Name Name) → flat_all w (seen_parts f ps) ≡ flat_all w ps
      all-seen f none = refl
      all-seen f (part r t ps) = λ j. flat-seen f t j ++ all-seen f ps j

      cases-seen : (f : Name → Within A) (before : List X) (ps : Parts Name Name) → flat_cases w before (seen_parts f ps) ≡ flat_cases w before ps
      cases-seen f before none = refl
      cases-seen f before (part r t ps) =
          ap (λ (xs : List X). flat_cases w (joined w.join before xs) (seen_parts f ps)) (flat-seen f t) ∙ cases-seen f (joined w.join before (flat w t)) ps

    params-seen : (f : Name → Within A) (ps : Parts Name Name) → flat_all w (params_in (seen_parts f ps)) ≡ flat_all w (params_in ps)
    params-seen f none = refl
    params-seen f (part (label l) t ps) = λ j. flat-seen f t j ++ params-seen f ps j
    params-seen f (part r t ps) = params-seen f ps

    result-flat-seen : (f : Name → Within A) (ps : Parts Name Name) → flat_all w (result_in (seen_parts f ps)) ≡ flat_all w (result_in ps)
    result-flat-seen f none = refl
    result-flat-seen f (part here t ps) = λ j. flat-seen f t j ++ result-flat-seen f ps j
    result-flat-seen f (part r t ps) = result-flat-seen f ps

  -- ## Core types of functions

  module _ (s : PtrSize) (a : Abi) (k : Concurrency) where
    type-seen : (f : Name → Within A) (t : Type_tree) → core_type s a k (parts (outline t)) ≡ core_type s a k (parts (seen f t))
    type-seen f (node h ps) =
        core_type_renamed no_identity no_identity s a k ps ∙ sym (λ j. signed s a k (params-seen (core_words s) (under h f) ps j) (result-flat-seen (core_words s) (under h f) ps j))

    -- functions that are seen alike
    pub alike-types : (f g : Name → Within A) (x t : Type_tree) → seen f x ≡ seen g t → core_type s a k (parts (outline x)) ≡ core_type s a k (parts (outline t))
    alike-types f g x t e = type-seen f x ∙ ap (λ (z : Tree (Within A) (Unit {0})). core_type s a k (parts z)) e ∙ sym (type-seen g t)

    flat-alike : (f g : Name → Within A) (x t : Type_tree) → seen f x ≡ seen g t → flat (core_words s) (outline x) ≡ flat (core_words s) (outline t)
    flat-alike f g x t e =
        flat-rename no_identity no_identity (core_words s) x ∙ sym (flat-seen (core_words s) f x) ∙ ap (flat (core_words s)) e ∙ flat-seen (core_words s) g t ∙ sym (flat-rename no_identity no_identity (core_words s) t)

    -- those that take values that are
    pub alike-taking : (f g : Name → Within A) (x t : Type_tree) → seen f x ≡ seen g t → core_type s a k (taking (outline x)) ≡ core_type s a k (taking (outline t))
    alike-taking f g x t e = ap (λ (xs : List ValType). signed s a k (xs ++ []) []) (flat-alike f g x t e)

  -- ## Streams and futures

  stream-seen : (f : Name → Within A) (t : Type_tree) → is_stream (outline (seen f t)) ≡ is_stream (outline t)
  stream-seen f (node (defined i (named q)) ps) = refl
  stream-seen f (node (defined i stream_of) ps) = refl
  stream-seen f (node (defined i k) ps) = refl
  stream-seen f (node h ps) = refl

  future-seen : (f : Name → Within A) (t : Type_tree) → is_future (outline (seen f t)) ≡ is_future (outline t)
  future-seen f (node (defined i (named q)) ps) = refl
  future-seen f (node (defined i future_of) ps) = refl
  future-seen f (node (defined i k) ps) = refl
  future-seen f (node h ps) = refl

  pub alike-stream : (f g : Name → Within A) (x t : Type_tree) → seen f x ≡ seen g t → is_stream (outline x) ≡ is_stream (outline t)
  alike-stream f g x t e = sym (stream-seen f x) ∙ ap (λ (z : Tree (Within A) (Unit {0})). is_stream (outline z)) e ∙ stream-seen g t

  pub alike-future : (f g : Name → Within A) (x t : Type_tree) → seen f x ≡ seen g t → is_future (outline x) ≡ is_future (outline t)
  alike-future f g x t e = sym (future-seen f x) ∙ ap (λ (z : Tree (Within A) (Unit {0})). is_future (outline z)) e ∙ future-seen g t

pub stream-sort : (t : Type_tree) → is_stream (outline t) ≡ true → sort t ≡ is_value
stream-sort (node (defined i k) ps) e = refl
stream-sort (node nothing ps) e = cc
stream-sort (node (primitive p) ps) e = cc
stream-sort (node (resource r s) ps) e = cc
stream-sort (node (func i b) ps) e = cc
stream-sort (node (instance i own) ps) e = cc
stream-sort (node (component i ins outs) ps) e = cc
stream-sort (node type_entity ps) e = cc
stream-sort (node (core_module i n) ps) e = cc
stream-sort (node (core_instance i n) ps) e = cc
stream-sort (node (tree.core_type i) ps) e = cc
stream-sort (node (core_item x) ps) e = cc

pub future-sort : (t : Type_tree) → is_future (outline t) ≡ true → sort t ≡ is_value
future-sort (node (defined i k) ps) e = refl
future-sort (node nothing ps) e = cc
future-sort (node (primitive p) ps) e = cc
future-sort (node (resource r s) ps) e = cc
future-sort (node (func i b) ps) e = cc
future-sort (node (instance i own) ps) e = cc
future-sort (node (component i ins outs) ps) e = cc
future-sort (node type_entity ps) e = cc
future-sort (node (core_module i n) ps) e = cc
future-sort (node (core_instance i n) ps) e = cc
future-sort (node (tree.core_type i) ps) e = cc
future-sort (node (core_item x) ps) e = cc
