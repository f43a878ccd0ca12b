use Rattle.std.proofs.Common.{◌≡◌, ◌-◌, length, None, Some, refl, sym, ap, ◌∙◌, subst, arith}
use Rattle.json.specs.Json as json
use Rattle.json.specs.Json.{parse_map, read_key, member}
use Rattle.json.proofs.Grammar.{read_key-shorter, members_end, members_fail, members_more, members_no_key}
use Rattle.serde_json.specs.Data.{no_members, put}
use Rattle.wcv_listing.specs.Parsed.{data_of, value_in_range}
use Rattle.wcv_listing.specs.Root.{IsSeen}
use Rattle.wcv_listing.proofs.Rooted.{as_read, read_more}
use Rattle.wcv_listing.proofs.root.read_members.Goals as goal

pub loop-key-init : goal.loop-key-init
loop-key-init c = (length c.args.reader.now, (λ ms. ms), no_members, omega arith, as_read _, (λ ms. refl), c.requires)

pub returns-in_err-key-clause-err : goal.returns-in_err-key-clause-err
returns-in_err-key-clause-err c never =
    let l = c.loop-key in
    l.invariant.4 ∙ ap (parse_map l.invariant.1) (members_no_key (value_in_range 126) l.invariant.0 l.reader c.in_err-key.ensures.value)

pub loop-key-preserved : goal.loop-key-preserved
loop-key-preserved c =
    let l = c.loop-key in
    let n = l.invariant.0 in
    let before = l.invariant.1 in
    let found = l.invariant.2 in
    let k = c.in-Some.key in
    let s = c.next_key.new.self in
    let r = c.read_member.new.reader in
    let has = c.in_ok-read_member.ensures.ok in
    let taken : read_key l.reader ≡ Some (Some k.now, s) = grind arith in
    let less = read_key-shorter l.reader (Some k.now) s taken in
    let lesser = c.in_ok-read_member.ensures.shorter in
    let more = members_more (value_in_range 126) n k.now l.reader s r has.read (omega (arith, less, l.invariant.3)) taken has.is_read in (
      n - 1,
      (λ ms. before (member k.now has.read ms)),
      put k.now (data_of has.read) found,
      omega (arith, less, lesser, l.invariant.3),
      l.invariant.4 ∙ ap (parse_map before) more ∙ read_more before (member k.now has.read) _,
      (λ ms. l.invariant.5 (member k.now has.read ms)),
      has.seen found l.invariant.6,
    )

pub returns-in_err-read_member-clause-err : goal.returns-in_err-read_member-clause-err
returns-in_err-read_member-clause-err c never =
    let l = c.loop-key in
    let k = c.in-Some.key in
    let s = c.next_key.new.self in
    let taken : read_key l.reader ≡ Some (Some k.now, s) = grind arith in
    let failed : value_in_range 126 s ≡ None = grind arith in
    l.invariant.4 ∙ ap (parse_map l.invariant.1) (members_fail (value_in_range 126) l.invariant.0 k.now l.reader s taken failed)

pub returns-clause-ok : goal.returns-clause-ok
returns-clause-ok c =
    let l = c.loop-key in
    let before = l.invariant.1 in
    let r = c.next_key.new.self in
    let closing : read_key l.reader ≡ Some (None, r) = grind arith in
    record {
      read = before json.no_members;
      is_read = l.invariant.4 ∙ ap (parse_map before) (members_end (value_in_range 126) l.invariant.0 l.reader r l.invariant.3 closing);
      seen = subst (IsSeen l.seen) (sym (l.invariant.5 json.no_members)) l.invariant.6;
    }
