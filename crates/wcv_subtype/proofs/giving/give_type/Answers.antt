use Rattle.std.proofs.Common.{◌≡◌, List, [], ◌∷◌, ◌++◌, sym, ◌∙◌, ap, true}
use Rattle.std.proofs.lemmas.Result.{on_ok_weaker}
use Rattle.wcv_types.specs.Unfold.{any_part, tree_at}
use Rattle.wcv_types.specs.declared.ids.ResourceId.{ResourceId}
use Rattle.wcv_remap.specs.Map.{Map, entry}
use Rattle.wcv_subtype.proofs.GivenLists.{gives_new, gives_same, no_sent, some_sent}
use Rattle.wcv_subtype.proofs.giving.give_type.Goals as goal

pub returns-in-Some-clause-given : goal.returns-in-Some-clause-given
returns-in-Some-clause-given c a gs h k g =
    let s = some_sent (entry c.args.map.now (any_part c.args.old)) _ (sym c.get.ensures ∙ c.in-Some.is) in
    gives_same a gs (any_part c.args.old) (tree_at a (any_part c.args.new)) c.args.map.now s.0 s.1 g

pub push_type-requires : goal.push_type-requires
push_type-requires c = no_sent (entry c.args.map.now (any_part c.args.old)) (sym c.get.ensures ∙ c.in-None.is)

pub returns-in-None-clause-resources : goal.returns-in-None-clause-resources
returns-in-None-clause-resources c = on_ok_weaker {P = c.push_type.new.self ≡ record c.args.map.now { types = c.args.map.now.types ++ (any_part c.args.old, record { to = any_part c.args.new; given = true }) ∷ [] }} c.push_type.result (λ e. ap (λ (m : Map). m.resources) e) c.push_type.ensures.ok

pub returns-in-None-clause-given : goal.returns-in-None-clause-given
returns-in-None-clause-given c =
    on_ok_weaker {P = c.push_type.new.self ≡ record c.args.map.now { types = c.args.map.now.types ++ (any_part c.args.old, record { to = any_part c.args.new; given = true }) ∷ [] }} c.push_type.result
    (λ e a gs h k g. gives_new a gs c.args.old c.args.new c.args.map.now c.push_type.new.self h k (no_sent (entry c.args.map.now (any_part c.args.old)) (sym c.get.ensures ∙ c.in-None.is)) g (ap (λ (m : Map). m.types) e)) c.push_type.ensures.ok
