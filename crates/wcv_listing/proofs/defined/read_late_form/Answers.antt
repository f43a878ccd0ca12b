use Rattle.std.proofs.Common.{◌≡◌, ℕ, List, Option, codes, drop, sym, ap, ◌∙◌, rules}
use Rattle.serde_json.specs.Data.{Data}
use Rattle.wcv_syntax.specs.Model.{Defined_form}
use Rattle.wcv_listing.specs.Defined.{defined_forms, form_by}
use Rattle.wcv_listing.proofs.defined.read_late_form.Goals as goal

under : (name key : List ℕ) (d : Data) {o : Option Defined_form} → name ≡ key → o ≡ form_by (drop 8 defined_forms) key d → o ≡ form_by (drop 8 defined_forms) name d
under name key d is h = h ∙ ap (λ (n : List ℕ). form_by (drop 8 defined_forms) n d) (sym is)

pub returns-in-option : goal.returns-in-option
returns-in-option c = under _ (codes "option") _ c.in-option.is (search rules)

pub returns-in-result : goal.returns-in-result
returns-in-result c = under _ (codes "result") _ c.in-result.is (search rules)

pub returns-in-own : goal.returns-in-own
returns-in-own c = under _ (codes "own") _ c.in-own.is (search rules)

pub returns-in-borrow : goal.returns-in-borrow
returns-in-borrow c = under _ (codes "borrow") _ c.in-borrow.is (search rules)

pub returns-in-future : goal.returns-in-future
returns-in-future c = under _ (codes "future") _ c.in-future.is (search rules)

pub returns-in-stream : goal.returns-in-stream
returns-in-stream c = under _ (codes "stream") _ c.in-stream.is (search rules)
