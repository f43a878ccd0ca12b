use Rattle.std.proofs.Common.{◌≡◌, ◌∙◌, ℕ, List, Option, Some, None, Ok, option_map, map, ap, subst, lit<, rules, false}
use Rattle.std.specs.Prelude.{codes}
use Rattle.std.specs.Str.{bytes_eq}
use Rattle.std.specs.declared.alloc.AllocError.{AllocError}
use Rattle.std.proofs.lemmas.Iterator.Consumers.{map_from_collect}
use Rattle.std.proofs.lemmas.Iterator.Splits.{YieldsList-from_str_split}
use Rattle.wcv_core.specs.declared.features.WasmFeatures.{WasmFeatures}
use Rattle.wcv_main.specs.Commands.{joined_names}
use Rattle.wcv_main.proofs.reading.features_of_word.Goals as goal

-- a set of features by its bits
set_of_bits : (o : Option WasmFeatures) (x : Option ℕ) → option_map (λ (features : WasmFeatures). features.0) o ≡ x → o ≡ option_map (λ (bits : ℕ). record { 0 = bits }) x
set_of_bits None x e = ap (option_map (λ (bits : ℕ). record { 0 = bits })) e
set_of_bits (Some f) x e = ap (option_map (λ (bits : ℕ). record { 0 = bits })) e

pub returns : goal.returns
returns c =
    let word : List ℕ = c.args.word.now in
    let all : bytes_eq word (codes "all") ≡ false = search rules in
    let none : bytes_eq word (codes "none") ≡ false = search rules in
    let joined = subst (λ xs. option_map (λ (features : WasmFeatures). features.0) c.features_named.result ≡ joined_names (map (λ name. name.now) xs) 0) c.deref.ensures.value c.features_named.ensures in
    let pieces = map_from_collect {E = AllocError} (Ok c.in_ok-names.names) c.in_ok-names.ensures.ran (YieldsList-from_str_split 44 word (lit< tt) c.split.ensures.text c.split.ensures.has_more c.split.ensures.pattern) in
    rw (all, none) (set_of_bits c.features_named.result _ (joined ∙ ap (λ (names : List (List ℕ)). joined_names names 0) pieces))
