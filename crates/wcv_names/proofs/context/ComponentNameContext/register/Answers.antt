use Rattle.std.proofs.Common.{◌≡◌, [], ◌∷◌, ◌++◌, ◌||◌, bytes_eq, ◌∙◌, ap}
use Rattle.std.proofs.lemmas.Result.{on_ok_weaker, on_err_weaker}
use Rattle.wcv_core.specs.Label.{is_among}
use Rattle.wcv_names.specs.ResourceNames.{Named_ids, name_of, names_of, named_by, reference_of}
use Rattle.wcv_names.proofs.ById.{no_place, names_stay, name_joins}
use Rattle.wcv_core.proofs.Texts.{among_with}
use Rattle.wcv_names.proofs.context.ComponentNameContext.register.Goals as goal

pub insert-requires : goal.insert-requires
insert-requires c =
    no_place c.args.id c.self.inside.names c.self.inside.places
    (ap (λ (s : Named_ids). name_of (names_of s) (reference_of c.args.id)) c.self.view_is ∙ c.requires)

pub returns-clause-references : goal.returns-clause-references
returns-clause-references c =
    on_ok_weaker {P = c.insert.new.self ≡ c.self.inside.places ++ (c.args.id, c.in_ok-place.place) ∷ []} c.insert.result
    (λ e. ap (named_by c.place_of.new.self) e ∙
    name_joins c.args.name.now c.self.inside.names c.place_of.new.self c.in_ok-place.ensures.ok c.self.inside.places c.self.invariant c.args.id c.in_ok-place.place c.in_ok-place.ensures.stands ∙
    ap (λ (s : Named_ids). s.references ++ (c.args.id, c.args.name.now) ∷ []) c.self.view_is) c.insert.ensures.ok

pub returns-clause-names : goal.returns-clause-names
returns-clause-names c =
    on_ok_weaker {P = c.insert.new.self ≡ c.self.inside.places ++ (c.args.id, c.in_ok-place.place) ∷ []} c.insert.result
    (λ e t. ap (is_among t) c.in_ok-place.ensures.ok ∙ among_with t c.args.name.now c.self.inside.names ∙ ap (λ (s : Named_ids). bytes_eq t c.args.name.now || is_among t s.names) c.self.view_is) c.insert.ensures.ok

pub returns-clause-err : goal.returns-clause-err
returns-clause-err c =
    on_err_weaker {P = c.insert.new.self ≡ c.self.inside.places} c.insert.result
    (λ e. ap (named_by c.place_of.new.self) e ∙ names_stay c.args.name.now c.self.inside.names c.place_of.new.self c.in_ok-place.ensures.ok c.self.inside.places c.self.invariant ∙
    ap (λ (s : Named_ids). s.references) c.self.view_is) c.insert.ensures.err
