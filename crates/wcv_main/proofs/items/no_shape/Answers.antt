use Rattle.std.proofs.Common.{◌≡◌, refl, rules, codes, ◌++◌, List, ℕ}
use Rattle.std.specs.Fmt.{decimal}
use Rattle.wcv_main.specs.Due.{no_shape}
use Rattle.wcv_main.specs.Report.{line}
use Rattle.wcv_main.specs.declared.status.Status.TheVariants as status
use Rattle.wcv_main.proofs.Ending.{nothing_ends}
use Rattle.wcv_main.proofs.items.no_shape.Goals as goal

pub returns-in-Ok : goal.returns-in-Ok
returns-in-Ok g c =
    let text : List ℕ = c.as_str.result.now in
    let made : text ≡ line (codes "bad listing at " ++ decimal c.args.at) = search rules in
    (status.Listing, text, (refl, made), c.finish.ensures)

pub returns-in-Err : goal.returns-in-Err
returns-in-Err g c = nothing_ends (no_shape c.args.at) _ _
