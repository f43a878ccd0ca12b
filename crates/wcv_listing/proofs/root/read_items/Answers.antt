use Rattle.std.proofs.Common.{◌≡◌, ◌-◌, ◌<◌, [], length, None, Some, if◌then◌else◌, refl, sym, ap, ◌∙◌, arith}
use Rattle.json.specs.Json.{parse_map, after_end_array, no_items, item}
use Rattle.json.proofs.Grammar.{items_end, items_fail, items_more}
use Rattle.wcv_syntax.specs.View.{entries}
use Rattle.wcv_listing.specs.Parsed.{items, value_in_range}
use Rattle.wcv_listing.specs.Root.{going, made}
use Rattle.wcv_listing.specs.Tape.{json_of}
use Rattle.wcv_listing.proofs.Rooted.{as_read, read_more, going_first, going_end}
use Rattle.wcv_listing.proofs.root.read_items.Goals as goal

pub loop-alloc-init : goal.loop-alloc-init
loop-alloc-init c =
    let none : entries c.clear.new.self.items ≡ [] = ap entries c.clear.ensures.items in
    (length c.args.reader.now, (λ js. js), omega arith, as_read _, (λ js. going_first (items js) ∙ ap (λ es. going es None (items js)) (sym none)), refl, record { version = refl; end = refl; features = refl; other = refl }, omega arith)

pub loop-alloc-preserved : goal.loop-alloc-preserved
loop-alloc-preserved c =
    let l = c.loop-alloc in
    let n = l.invariant.0 in
    let before = l.invariant.1 in
    let r = c.read.new.reader in
    let j = json_of c.read.new.self in
    let has = c.in_ok-make_item.ensures.ok in
    let keeps = l.invariant.6 in
    let going_on : (after_end_array l.reader ≡ None) × (c.take_end_array.new.self ≡ l.reader) = grind arith in
    let is_read : value_in_range 125 l.reader ≡ Some (j, r) = rw (← going_on.1) c.in_ok-read.ensures.ok in
    let less : length r < length l.reader = rw (← going_on.1) c.in_ok-read.ensures.shorter in
    let more = items_more (value_in_range 125) n l.reader r j (omega (arith, less, l.invariant.2)) going_on.0 is_read in (
      n - 1,
      (λ js. before (item j js)),
      omega (arith, less, l.invariant.2),
      l.invariant.3 ∙ ap (parse_map before) more ∙ read_more before (item j) _,
      (λ js. l.invariant.4 (item j js) ∙ has.made (items js)),
      has.list ∙ l.invariant.5,
      record { version = has.keeps.version ∙ keeps.version; end = has.keeps.end ∙ keeps.end; features = has.keeps.features ∙ keeps.features; other = has.keeps.other ∙ keeps.other },
      omega (arith, less, l.invariant.7),
    )

pub returns-in_err-read-clause-err : goal.returns-in_err-read-clause-err
returns-in_err-read-clause-err c never =
    let l = c.loop-alloc in
    let going_on : (after_end_array l.reader ≡ None) × (c.take_end_array.new.self ≡ l.reader) = grind arith in
    let failed : value_in_range 125 l.reader ≡ None = rw (← going_on.1) (grind arith) in
    l.invariant.3 ∙ ap (parse_map l.invariant.1) (items_fail (value_in_range 125) l.invariant.0 l.reader going_on.0 failed)

pub returns-clause-ok : goal.returns-clause-ok
returns-clause-ok c =
    let l = c.loop-alloc in
    let s = l.seen in
    let before = l.invariant.1 in
    let r = c.take_end_array.new.self in
    let closing : after_end_array l.reader ≡ Some r = grind arith in
    record {
      read = before no_items;
      is_read = l.invariant.3 ∙ ap (parse_map before) (items_end (value_in_range 125) l.invariant.0 l.reader r l.invariant.2 closing);
      made = ap (λ b. if b then Some (made (entries s.items.items) s.bad) else None) l.invariant.5 ∙ ap Some (sym (going_end (entries s.items.items) s.bad)) ∙ ap Some (sym (l.invariant.4 no_items));
      keeps = record { version = l.invariant.6.version; end = l.invariant.6.end; features = l.invariant.6.features; other = l.invariant.6.other };
    }
