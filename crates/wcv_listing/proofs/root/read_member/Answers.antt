use Rattle.std.proofs.Common.{◌≡◌, drop, ap₂, subst}
use Rattle.serde_json.specs.Data.{Data, put}
use Rattle.wcv_listing.specs.Parsed.{data_of}
use Rattle.wcv_listing.specs.Root.{IsSeen}
use Rattle.wcv_listing.specs.Seen.{view}
use Rattle.wcv_listing.specs.Tape.{json_of}
use Rattle.wcv_listing.proofs.root.read_member.Goals as goal

pub returns-clause-ok : goal.returns-clause-ok
returns-clause-ok c =
    let viewed : view c.root.result ≡ data_of (json_of c.read.new.self) = ap₂ (λ at ts. data_of (json_of (drop at ts))) c.root.ensures.1 c.root.ensures.0 in
    record {
      read = json_of c.read.new.self;
      is_read = c.in_ok-read.ensures.ok;
      seen = λ ms old. subst (λ (d : Data). IsSeen c.see_value.new.seen (put c.args.key.now d ms)) viewed (c.see_value.ensures ms old);
    }
