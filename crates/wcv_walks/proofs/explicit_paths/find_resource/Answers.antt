use Rattle.std.proofs.Common.{ℕ, List, [], ◌∷◌, ◌++◌, sym, ◌∙◌, ap}
use Rattle.std.proofs.lemmas.Result.{on_ok_weaker}
use Rattle.wcv_walks.proofs.Finding.{finds_one}
use Rattle.wcv_walks.proofs.explicit_paths.find_resource.Goals as goal

pub returns : goal.returns
returns c =
    on_ok_weaker c.insert.result
    (λ w. finds_one c.args.ids.now c.args.path.now c.args.resource c.args.found.now c.insert.new.self (sym c.contains.ensures ∙ c.if-not-contains.false)
    (w ∙ ap (λ (way : List ℕ). c.args.found.now ++ (c.args.resource, way) ∷ []) c.in_ok-place.ensures))
    c.insert.ensures.ok
