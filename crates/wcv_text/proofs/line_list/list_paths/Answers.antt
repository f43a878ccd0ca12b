use Rattle.std.proofs.Common.{◌≡◌, ◌∙◌, ◌∷◌, ◌++◌, ◌<◌, ◌≤◌, [], ℕ, List, length, take, take_all, Option, Some, ap, sym, subst, rules}
use Rattle.std.specs.Prelude.{slice_get}
use Rattle.wcv_types.specs.Text.{Written}
use Rattle.wcv_types.specs.Tree.{Text}
use Rattle.wcv_types.specs.declared.ids.ResourceId.{ResourceId}
use Rattle.wcv_text.specs.Entries.{write_path, write_path_list}
use Rattle.wcv_text.specs.LineList.{Lists, paths_of, path_word, with_path}
use Rattle.wcv_text.specs.Numbers.{name_of}
use Rattle.wcv_text.specs.declared.line_list.Line.TheVariants as line
use Rattle.wcv_text.proofs.Folds.{fold_step, found_there}
use Rattle.wcv_text.proofs.LineLists.{line_listed}
use Rattle.wcv_text.proofs.Lines.{resource_keeps}
use Rattle.wcv_text.proofs.line_list.list_paths.Goals as goal

pub loop-k-preserved : goal.loop-k-preserved
loop-k-preserved c = λ a seen start w h.
    let word : Text = path_word c.args.defined in
    let ps : List (ResourceId × List ℕ) = paths_of c.args.ty.now c.args.defined in
    let f : Written → ResourceId × List ℕ → Written = λ v x. write_path word x v in
    let within : c.loop-k.k < length ps = search rules in
    let there : (p : ResourceId × List ℕ) × (slice_get ps c.loop-k.k ≡ Some p) = found_there ps c.loop-k.k within in
    let items : c.push.new.self.items ≡ c.loop-k.lines.items ++ line.Path c.args.defined c.loop-k.k ∷ [] = search rules in
    let before : Written = write_path_list word (take c.loop-k.k ps) w in
    let listed = c.loop-k.invariant a seen start w h in
    subst (Lists a c.args.ty.now seen c.push.new.self.items start) (sym (fold_step f w ps c.loop-k.k there.0 there.1))
    (line_listed a c.args.ty.now seen seen c.loop-k.lines.items c.push.new.self.items (line.Path c.args.defined c.loop-k.k) start before (write_path word there.0 before) items tt
    (sym (ap (λ (o : Option (ResourceId × List ℕ)). with_path word o before) there.1)) (resource_keeps before (name_of there.0.0) ∙ listed.nodes) listed)

pub returns : goal.returns
returns c = λ a seen start w h.
    let word : Text = path_word c.args.defined in
    let ps : List (ResourceId × List ℕ) = paths_of c.args.ty.now c.args.defined in
    let long : length ps ≤ c.loop-k.k = search rules in
    subst (λ (xs : List (ResourceId × List ℕ)). Lists a c.args.ty.now seen c.loop-k.lines.items start (write_path_list word xs w)) (take_all c.loop-k.k ps long) (c.loop-k.invariant a seen start w h)
