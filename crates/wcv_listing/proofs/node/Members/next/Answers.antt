use Rattle.std.proofs.Common.{◌≡◌, ◌+◌, ◌∷◌, length, drop, true, is_some, ap, ◌∙◌, subst, arith}
use Rattle.json.specs.Token.{begin_object}
use Rattle.wcv_listing.specs.Grown.{node_token}
use Rattle.wcv_listing.specs.Tape.{value_here, members_of}
use Rattle.wcv_listing.proofs.Places.{members_within, next_member, member_there, no_member, shorter}
use Rattle.wcv_listing.proofs.Shapes.{no_key}
use Rattle.wcv_listing.proofs.node.Members.next.Goals as goal

pub node_at-requires : goal.node_at-requires
node_at-requires c = members_within c.args.self.tape.now c.args.self.at c.args.self.stand

pub returns-in_default : goal.returns-in_default
returns-in_default c =
    let first = c.node_at.ensures.first in
    record {
      value = ap members_of first ∙ no_member (node_token c.node_at.result) _ (no_key c.node_at.result c.in_default.not-Key) (subst (λ x. is_some (value_here (begin_object ∷ x)) ≡ true) first c.args.self.stand);
      shorter = tt;
    }

pub invariant_of-result : goal.invariant_of-result
invariant_of-result c =
    let behind = drop (c.args.self.at + 1) c.args.self.tape.now in
    let named = c.node_at.ensures.first ∙ ap (λ n. node_token n ∷ behind) c.in-Key.is in
    record { stands = ap is_some (next_member c.in-Key.key.now behind (subst (λ x. is_some (value_here (begin_object ∷ x)) ≡ true) named c.args.self.stand)).1 }

pub invariant_of-result-2 : goal.invariant_of-result-2
invariant_of-result-2 c =
    let behind = drop (c.args.self.at + 1) c.args.self.tape.now in
    let named = c.node_at.ensures.first ∙ ap (λ n. node_token n ∷ behind) c.in-Key.is in
    record { stand = (member_there c.in-Key.key.now behind _ (subst (λ x. is_some (value_here (begin_object ∷ x)) ≡ true) named c.args.self.stand) c.after.ensures).1 }

pub returns-clause-value : goal.returns-clause-value
returns-clause-value c =
    let behind = drop (c.args.self.at + 1) c.args.self.tape.now in
    let named = c.node_at.ensures.first ∙ ap (λ n. node_token n ∷ behind) c.in-Key.is in
    ap members_of named ∙ (member_there c.in-Key.key.now behind _ (subst (λ x. is_some (value_here (begin_object ∷ x)) ≡ true) named c.args.self.stand) c.after.ensures).0

pub returns-clause-shorter : goal.returns-clause-shorter
returns-clause-shorter c =
    let behind = drop (c.args.self.at + 1) c.args.self.tape.now in
    omega (arith, ap length c.node_at.ensures.first, shorter behind _ _ c.after.ensures)
