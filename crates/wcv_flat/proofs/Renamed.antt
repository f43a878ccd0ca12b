-- Flat types, core types of functions, and what they ask of options are the same under a renaming.
use Rattle.std.proofs.Common.{◌≡◌, List, [], ◌++◌, ◌||◌, refl, ◌∙◌, ap}
use Rattle.wcv_types.specs.Abi.{pointer, any_contains}
use Rattle.wcv_types.specs.Flat.{Flat_words, joined, former_flat, flat, flat_all, flat_cases}
use Rattle.wcv_types.specs.Rename.{rename, rename_parts}
use Rattle.wcv_types.specs.Tree.{here, label, nothing, primitive, defined, Tree, node, Parts, none, part}
use Rattle.wcv_types.proofs.AbiRenamed.{any_contains-rename}
use Rattle.wcv_core.specs.CoreForm.{func_form}
use Rattle.wcv_core.specs.declared.core_types.ValType.TheVariants as core
use Rattle.wcv_flat.specs.Flat.{pointer_type, core_words}
use Rattle.wcv_flat.specs.Options.{pointer_size, use_checks, type_checks}
use Rattle.wcv_flat.specs.Signature.{params_in, result_in, params_flat, result_flat, exceeds, param_limit, result_limit, core_params, core_results, core_type}
use Rattle.wcv_flat.specs.declared.options.Abi.{Abi}
use Rattle.wcv_flat.specs.declared.options.CanonicalOptions.{CanonicalOptions}
use Rattle.wcv_flat.specs.declared.options.Concurrency.{Concurrency}
use Rattle.wcv_flat.specs.declared.options.PtrSize.{PtrSize}

module _ {R S I J : Type 0} (f : R → S) (g : I → J) where
  module _ {X : Type 0} (w : Flat_words X) where
    mutual
      pub flat-rename : (t : Tree R I) → flat w (rename f g t) ≡ flat w t
      flat-rename (node (primitive q) ps) = refl
      flat-rename (node (defined i k) ps) = λ j. former_flat w k (flat_all-rename ps j) (flat_cases-rename [] ps j)
      flat-rename (node nothing ps) = refl
      flat-rename (node h ps) = refl

      pub flat_all-rename : (ps : Parts R I) → flat_all w (rename_parts f g ps) ≡ flat_all w ps
      flat_all-rename none = refl
      flat_all-rename (part r t ps) = λ j. flat-rename t j ++ flat_all-rename ps j

      flat_cases-rename : (before : List X) (ps : Parts R I) → flat_cases w before (rename_parts f g ps) ≡ flat_cases w before ps
      flat_cases-rename before none = refl
      flat_cases-rename before (part r t ps) =
          ap (λ (xs : List X). flat_cases w (joined w.join before xs) (rename_parts f g ps)) (flat-rename t) ∙ flat_cases-rename (joined w.join before (flat w t)) ps

  -- ## Functions

  params-rename : (ps : Parts R I) → params_in (rename_parts f g ps) ≡ rename_parts f g (params_in ps)
  params-rename none = refl
  params-rename (part (label l) t ps) = ap (λ (qs : Parts S J). part (label l) (rename f g t) qs) (params-rename ps)
  params-rename (part r t ps) = params-rename ps

  result-rename : (ps : Parts R I) → result_in (rename_parts f g ps) ≡ rename_parts f g (result_in ps)
  result-rename none = refl
  result-rename (part here t ps) = ap (λ (qs : Parts S J). part here (rename f g t) qs) (result-rename ps)
  result-rename (part r t ps) = result-rename ps

  params_flat-rename : (s : PtrSize) (ps : Parts R I) → params_flat s (rename_parts f g ps) ≡ params_flat s ps
  params_flat-rename s ps = ap (λ (qs : Parts S J). flat_all (core_words s) qs) (params-rename ps) ∙ flat_all-rename (core_words s) (params_in ps)

  result_flat-rename : (s : PtrSize) (ps : Parts R I) → result_flat s (rename_parts f g ps) ≡ result_flat s ps
  result_flat-rename s ps = ap (λ (qs : Parts S J). flat_all (core_words s) qs) (result-rename ps) ∙ flat_all-rename (core_words s) (result_in ps)

  pub core_type_renamed : (s : PtrSize) (a : Abi) (k : Concurrency) (ps : Parts R I) → core_type s a k (rename_parts f g ps) ≡ core_type s a k ps
  core_type_renamed s a k ps =
      λ i. func_form (core_params (pointer_type s) a k (params_flat-rename s ps i) (result_flat-rename s ps i)) (core_results core.I32 (pointer_type s) a k (result_flat-rename s ps i))

  pub type_checks_renamed : (o : CanonicalOptions) (a : Abi) (ps : Parts R I) → type_checks o a (rename_parts f g ps) ≡ type_checks o a ps
  type_checks_renamed o a ps =
      let params = ap (any_contains pointer) (params-rename ps) ∙ any_contains-rename f g pointer (params_in ps) in
      let gives = ap (any_contains pointer) (result-rename ps) ∙ any_contains-rename f g pointer (result_in ps) in
      λ i. use_checks o a (exceeds (param_limit a o.concurrency) (params_flat-rename (pointer_size o) ps i) || params i) (exceeds (result_limit a o.concurrency) (result_flat-rename (pointer_size o) ps i) || gives i) (gives i)
