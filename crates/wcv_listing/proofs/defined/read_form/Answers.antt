use Rattle.std.proofs.Common.{◌≡◌, ℕ, List, Option, codes, sym, ap, ◌∙◌, arith, rules}
use Rattle.std.proofs.lemmas.Grind.{common_steps}
use Rattle.serde_json.specs.Data.{Data}
use Rattle.wcv_syntax.specs.Model.{Defined_form}
use Rattle.wcv_listing.specs.Defined.{form_of}
use Rattle.wcv_listing.proofs.defined.read_form.Goals as goal

under : (name key : List ℕ) (d : Data) {o : Option Defined_form} → name ≡ key → o ≡ form_of key d → o ≡ form_of name d
under name key d is h = h ∙ ap (λ (n : List ℕ). form_of n d) (sym is)

pub returns-in_ok-read_params-in-record : goal.returns-in_ok-read_params-in-record
returns-in_ok-read_params-in-record c = under _ (codes "record") _ c.in-record.is (search rules)

pub returns-in_ok-read_list-in-variant : goal.returns-in_ok-read_list-in-variant
returns-in_ok-read_list-in-variant c = under _ (codes "variant") _ c.in-variant.is (grind (arith, common_steps))

pub returns-in-list : goal.returns-in-list
returns-in-list c = under _ (codes "list") _ c.in-list.is (search rules)

pub returns-in-map : goal.returns-in-map
returns-in-map c = under _ (codes "map") _ c.in-map.is (search rules)

pub returns-in-text : goal.returns-in-text
returns-in-text c = under _ (codes "fixed-list") _ c.in-text.is (search rules)

pub returns-in_ok-read_list-in-tuple : goal.returns-in_ok-read_list-in-tuple
returns-in_ok-read_list-in-tuple c = under _ (codes "tuple") _ c.in-tuple.is (grind (arith, common_steps))

pub returns-in_ok-read_list-in-flags : goal.returns-in_ok-read_list-in-flags
returns-in_ok-read_list-in-flags c = under _ (codes "flags") _ c.in-flags.is (grind (arith, common_steps))

pub returns-in_ok-read_list-in-enum : goal.returns-in_ok-read_list-in-enum
returns-in_ok-read_list-in-enum c = under _ (codes "enum") _ c.in-enum.is (grind (arith, common_steps))
