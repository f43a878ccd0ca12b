use Rattle.std.proofs.Common.{◌∷◌, is_some, Some, sym, ap, ◌∙◌, subst}
use Rattle.json.specs.Json.{null}
use Rattle.json.specs.Reads.{token_of}
use Rattle.wcv_listing.specs.Grown.{Grown}
use Rattle.json.proofs.Grammar.{left_some}
use Rattle.wcv_listing.specs.Parsed.{value_in_range}
use Rattle.wcv_listing.proofs.Kept.{value_is_in_range}
use Rattle.wcv_listing.specs.Tape.{found}
use Rattle.wcv_listing.proofs.Places.{linked_alone, value_alone}
use Rattle.wcv_listing.proofs.tape.Tape.read_behind.Goals as goal

pub invariant_of-self : goal.invariant_of-self
invariant_of-self c =
    linked_alone c.read_behind.new.nodes.items (token_of c.args.token ∷ c.args.reader.now) c.read_behind.new.reader
    (subst (λ x. Grown x (token_of c.args.token ∷ c.args.reader.now) c.read_behind.new.nodes.items c.read_behind.new.reader) c.clear.ensures.items c.in-Ok.ensures.grown)

pub returns-in-Ok-clause-ok : goal.returns-in-Ok-clause-ok
returns-in-Ok-clause-ok c =
    let old = (token_of c.args.token ∷ c.args.reader.now) in
    let new = c.read_behind.new.reader in
    let grown = subst (λ x. Grown x old c.read_behind.new.nodes.items new) c.clear.ensures.items c.in-Ok.ensures.grown in
    let j = left_some (value_in_range c.args.depth old) new c.in-Ok.ensures.ok in
    let there = value_alone c.read_behind.new.nodes.items old new j.0 c.args.depth c.requires grown (value_is_in_range c.args.depth old new j.0 j.1).0 in
    j.1 ∙ ap (λ x. Some (x, new)) (sym (ap (found null) there))

pub returns-in-Ok-clause-stands : goal.returns-in-Ok-clause-stands
returns-in-Ok-clause-stands c =
    let old = (token_of c.args.token ∷ c.args.reader.now) in
    let new = c.read_behind.new.reader in
    let grown = subst (λ x. Grown x old c.read_behind.new.nodes.items new) c.clear.ensures.items c.in-Ok.ensures.grown in
    let j = left_some (value_in_range c.args.depth old) new c.in-Ok.ensures.ok in
    ap is_some (value_alone c.read_behind.new.nodes.items old new j.0 c.args.depth c.requires grown (value_is_in_range c.args.depth old new j.0 j.1).0)
