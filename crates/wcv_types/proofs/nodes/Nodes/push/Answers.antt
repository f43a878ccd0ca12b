use Rattle.std.proofs.Common.{rules, length, ◌≡◌, List, ◌++◌, ◌∷◌, [], ◌∙◌, take, refl}
use Rattle.std.proofs.Math.Seq.{take-append_seam}
use Rattle.wcv_types.specs.Facts.{nodes_at}
use Rattle.wcv_types.specs.declared.arena.Node.{Node}
use Rattle.wcv_types.specs.declared.nodes.Known.{Known}
use Rattle.wcv_types.proofs.ShapeTables.{numbered_push}
use Rattle.wcv_types.proofs.Sharing.{seen_push, known_push, stay}
use Rattle.wcv_types.proofs.nodes.Nodes.push.Goals as goal

pub invariant_of-self : goal.invariant_of-self
invariant_of-self c = stay c.self.inside.known.items c.push.new.self.items c.self.inside.positions.items c.self.inside.positions.items c.self.inside.numbers c.in_err-push.ensures.items refl c.self.invariant

pub invariant_of-self-then-is_err : goal.invariant_of-self-then-is_err
invariant_of-self-then-is_err c =
    let at_end : c.len-position.result ≡ length c.self.inside.known.items = search rules in
    let x : Known = record { node = c.args.node; facts = c.args.facts } in
    let known : c.truncate.new.self.items ≡ c.self.inside.known.items =
    c.truncate.ensures.items ∙ (λ i. take (at_end i) (c.in_ok-push.ensures.items i)) ∙ take-append_seam c.self.inside.known.items (x ∷ []) in
    let positions : c.push-2.new.self.items ≡ c.self.inside.positions.items = search rules in
    stay c.self.inside.known.items c.truncate.new.self.items c.self.inside.positions.items c.push-2.new.self.items c.self.inside.numbers known positions c.self.invariant

pub invariant_of-self-else-is_err : goal.invariant_of-self-else-is_err
invariant_of-self-else-is_err c =
    let at_end : c.len-position.result ≡ length c.self.inside.known.items = search rules in
    let more : c.push-2.new.self.items ≡ c.self.inside.positions.items ++ c.len-position.result ∷ [] = search rules in
    let x : Known = record { node = c.args.node; facts = c.args.facts } in
    let old : List Node = nodes_at c.self.inside.known.items c.self.inside.positions.items in
    let new : List Node = nodes_at c.push.new.self.items c.push-2.new.self.items in
    let grown : new ≡ old ++ c.args.node ∷ [] = seen_push c.self.inside.known.items c.push.new.self.items c.self.inside.positions.items c.push-2.new.self.items x c.len-position.result old c.in_ok-push.ensures.items more at_end refl c.self.invariant.0 in
    (known_push c.self.inside.known.items c.push.new.self.items c.self.inside.positions.items c.push-2.new.self.items x c.len-position.result c.args.self.now c.in_ok-push.ensures.items more at_end c.self.view_is c.self.invariant.0 c.requires, numbered_push old new c.args.node c.self.inside.numbers grown c.self.invariant.1)

pub returns-clause-ok : goal.returns-clause-ok
returns-clause-ok c =
    let at_end : c.len-position.result ≡ length c.self.inside.known.items = search rules in
    let more : c.push-2.new.self.items ≡ c.self.inside.positions.items ++ c.len-position.result ∷ [] = search rules in
    seen_push c.self.inside.known.items c.push.new.self.items c.self.inside.positions.items c.push-2.new.self.items (record { node = c.args.node; facts = c.args.facts }) c.len-position.result c.args.self.now
    c.in_ok-push.ensures.items more at_end c.self.view_is c.self.invariant.0
