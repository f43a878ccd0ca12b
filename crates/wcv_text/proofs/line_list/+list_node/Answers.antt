use Rattle.std.proofs.Common.{◌≡◌, ◌∙◌, ◌<◌, [], ◌∷◌, ◌++◌, ap, sym, subst, List, length, take, take_all, Some, false, true, arith, rules}
use Rattle.std.specs.Prelude.{slice_get}
use Rattle.std.proofs.lemmas.Result.{on_ok_weaker}
use Rattle.wcv_types.specs.Arena.{Arena}
use Rattle.wcv_types.specs.Identity.{Identity, same_identity}
use Rattle.wcv_types.specs.Positions.{is_there}
use Rattle.wcv_types.specs.Standing.{HasIdentity, Stands, StandsBefore, identity_of}
use Rattle.wcv_types.specs.Text.{Written, has_line, write}
use Rattle.wcv_types.specs.Unfold.{parts_at, rank, tree_at}
use Rattle.wcv_types.specs.declared.ids.Part.{Part}
use Rattle.wcv_text.specs.LineList.{Lists}
use Rattle.wcv_text.specs.Nodes.{write_all}
use Rattle.wcv_text.specs.Numbers.{so_far}
use Rattle.wcv_text.specs.declared.line_list.Line.TheVariants as line
use Rattle.wcv_text.proofs.Folds.{fold_step}
use Rattle.wcv_text.proofs.LineLists.{node_listed}
use Rattle.wcv_text.proofs.Lines.{part_before, write_old}
use Rattle.wcv_text.proofs.Older.{older_own, older_then, still_none}
use Rattle.wcv_text.proofs.Parts.{part_line}
use Rattle.wcv_text.proofs.line_list.+list_node.Goals as goal

pub returns-then-has_line-clause-lists : goal.returns-then-has_line-clause-lists
returns-then-has_line-clause-lists t c = λ ty start w h.
    let there : has_line w (Some (identity_of c.args.part)) ≡ true = ap (λ (is : List Identity). is_there same_identity (identity_of c.args.part) is) h.nodes ∙
    sym (ap (λ i. has_line (so_far c.args.seen.now []) (Some i)) c.identity_of.ensures) ∙ sym c.has_line.ensures ∙ c.if-has_line.true in
    subst (Lists c.args.types.now ty c.args.seen.now c.args.lines.now.items start) (sym (write_old c.args.types.now c.args.part w c.requires.line c.requires.stands there)) h

pub list_node-requires : goal.list_node-requires
list_node-requires t c =
    let found : slice_get (parts_at c.args.types.now c.args.part) c.loop-k.k ≡ Some c.part_at.result =
    ap (λ (qs : List Part). slice_get qs c.loop-k.k) (sym c.in_ok-inner.ensures.parts) ∙ c.part_at.ensures in
    let s : StandsBefore c.args.types.now (rank c.args.part) c.part_at.result = part_before c.args.types.now c.args.part c.part_at.result c.loop-k.k c.in_ok-inner.ensures.unfolds found in
    let smaller : rank c.part_at.result < rank c.args.part = s.before in
    let stands : Stands c.args.types.now c.part_at.result = s.stands in
    let line : HasIdentity c.part_at.result = part_line c.args.types.now c.args.part c.part_at.result c.loop-k.k found in
    search rules

pub loop-k-preserved : goal.loop-k-preserved
loop-k-preserved t c =
    let a : Arena = c.args.types.now in
    let q : Part = c.args.part in
    let r : Part = c.part_at.result in
    let found : slice_get (parts_at a q) c.loop-k.k ≡ Some r = ap (λ (qs : List Part). slice_get qs c.loop-k.k) (sym c.in_ok-inner.ensures.parts) ∙ c.part_at.ensures in
    let s : StandsBefore a (rank q) r = part_before a q r c.loop-k.k c.in_ok-inner.ensures.unfolds found in
    let below : rank r < rank q = s.before in
    record {
      lists = λ ty start w h. subst (Lists a ty c.list_node.new.seen c.list_node.new.lines.items start) (sym (fold_step (λ v p. write v (tree_at a p)) w (parts_at a q) c.loop-k.k r found))
          (c.in_ok-list_node.ensures.lists ty start _ (c.loop-k.invariant.lists ty start w h));
      no_line = still_none r q c.loop-k.seen c.list_node.new.seen below c.in_ok-list_node.ensures.older c.loop-k.invariant.no_line;
      older = older_then (rank q) (rank r) (rank q) c.args.seen.now c.loop-k.seen c.list_node.new.seen (omega arith) (omega arith) c.loop-k.invariant.older c.in_ok-list_node.ensures.older;
    }

pub add_line-requires : goal.add_line-requires
add_line-requires t c = ap (λ (i : Identity). has_line (so_far c.loop-k.seen []) (Some i)) c.identity_of-2.ensures ∙ c.loop-k.invariant.no_line

pub returns-clause-lists : goal.returns-clause-lists
returns-clause-lists t c =
    let a : Arena = c.args.types.now in
    let q : Part = c.args.part in
    let all : take c.loop-k.k (parts_at a q) ≡ parts_at a q = take_all c.loop-k.k (parts_at a q) (omega (arith, ap (λ (qs : List Part). length qs) c.in_ok-inner.ensures.parts)) in
    let none : has_line (so_far c.args.seen.now []) (Some (identity_of q)) ≡ false = sym (ap (λ i. has_line (so_far c.args.seen.now []) (Some i)) c.identity_of.ensures) ∙ sym c.has_line.ensures ∙ c.if-has_line.false in
    let items : c.push.new.self.items ≡ c.loop-k.lines.items ++ line.Node q ∷ [] = search rules in
    on_ok_weaker c.add_line.result
    (λ added ty start w h.
    let absent : has_line w (Some (identity_of q)) ≡ false = ap (λ (is : List Identity). is_there same_identity (identity_of q) is) h.nodes ∙ none in
    let parts_listed = subst (λ qs. Lists a ty c.loop-k.seen c.loop-k.lines.items start (write_all a w qs)) all (c.loop-k.invariant.lists ty start w h) in
    node_listed a q ty c.loop-k.seen c.add_line.new.self c.loop-k.lines.items c.push.new.self.items start w c.requires.line c.requires.stands c.in_ok-inner.ensures.unfolds items absent c.loop-k.invariant.no_line
    (ap (λ (v : Written). v.nodes) (added []) ∙ ap (λ (i : Identity). (so_far c.loop-k.seen []).nodes ++ i ∷ []) c.identity_of-2.ensures) parts_listed)
    c.add_line.ensures

pub returns-clause-older : goal.returns-clause-older
returns-clause-older t c =
    let q : Part = c.args.part in
    on_ok_weaker c.add_line.result
    (λ added. older_then (rank q) (rank q) (rank q) c.args.seen.now c.loop-k.seen c.add_line.new.self (omega arith) (omega arith) c.loop-k.invariant.older
    (older_own q c.loop-k.seen c.add_line.new.self c.requires.line (ap (λ (v : Written). v.nodes) (added []) ∙ ap (λ (i : Identity). (so_far c.loop-k.seen []).nodes ++ i ∷ []) c.identity_of-2.ensures)))
    c.add_line.ensures
