use Rattle.std.proofs.Common.{option_copied, sym, ◌∙◌, ap}
use Rattle.wcv_names.specs.ResourceNames.{Named_ids, name_of, names_of, reference_of}
use Rattle.wcv_core.specs.TextSet.{is_text}
use Rattle.wcv_names.proofs.ById.{named_at, not_named}
use Rattle.wcv_names.proofs.context.ComponentNameContext.is_named.Goals as goal

pub returns-in-Some : goal.returns-in-Some
returns-in-Some c =
    c.is_at.ensures ∙
    ap (is_text c.args.name.now) (named_at c.args.id.now c.self.inside.names c.self.inside.places c.in-Some.place.now c.self.invariant (sym c.get.ensures ∙ ap option_copied c.in-Some.is)) ∙
    ap (λ (s : Named_ids). is_text c.args.name.now (name_of (names_of s) (reference_of c.args.id.now))) c.self.view_is

pub returns-in-None : goal.returns-in-None
returns-in-None c =
    ap (is_text c.args.name.now) (not_named c.args.id.now c.self.inside.names c.self.inside.places (sym c.get.ensures ∙ ap option_copied c.in-None.is)) ∙
    ap (λ (s : Named_ids). is_text c.args.name.now (name_of (names_of s) (reference_of c.args.id.now))) c.self.view_is
