use Rattle.std.proofs.Common.{◌≡◌, [], ◌∷◌, ◌++◌, None, Some, drop, option_map, refl, sym, ap, ap₂, ◌∙◌, arith}
use Rattle.std.proofs.lemmas.List.{map_push}
use Rattle.serde_json.specs.Data.{item}
use Rattle.wcv_syntax.specs.View.{item_view, entries}
use Rattle.wcv_listing.specs.Listing.{item_of}
use Rattle.wcv_listing.specs.Parsed.{data_of}
use Rattle.wcv_listing.specs.Root.{going}
use Rattle.wcv_listing.specs.Seen.{view}
use Rattle.wcv_listing.specs.Tape.{json_of}
use Rattle.wcv_listing.proofs.Rooted.{going_more}
use Rattle.wcv_listing.proofs.root.make_item.Goals as goal

pub returns-in_ok-push-in-Some-clause-ok : goal.returns-in_ok-push-in-Some-clause-ok
returns-in_ok-push-in-Some-clause-ok c =
    let s = c.args.seen.now in
    let d = data_of (json_of c.args.tape.now) in
    let e = item_view c.in-Some.item in
    let seen : view c.root.result ≡ d = ap₂ (λ at ts. data_of (json_of (drop at ts))) c.root.ensures.1 c.root.ensures.0 in
    let found : item_of d ≡ Some e = ap item_of (sym seen) ∙ sym c.in_ok-item.ensures ∙ ap (option_map item_view) c.in-Some.is in
    let none : s.bad ≡ None = grind arith in
    let joined : entries c.push.new.self.items ≡ entries s.items.items ++ e ∷ [] = ap entries c.in_ok-push-in-Some.ensures.items ∙ map_push item_view s.items.items c.in-Some.item in
    record {
      made = λ ds. ap (λ b. going (entries s.items.items) b (item d ds)) none ∙ going_more (entries s.items.items) e d ds found ∙ ap₂ (λ es b. going es b ds) (sym joined) (sym none);
      list = refl;
      keeps = record { version = refl; end = refl; features = refl; other = refl };
    }
