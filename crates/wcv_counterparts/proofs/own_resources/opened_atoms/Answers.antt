use Rattle.std.proofs.Common.{◌++◌, ◌∙◌, ap, map, sym}
use Rattle.wcv_types.specs.Tree.{firsts, imported}
use Rattle.wcv_types.specs.Unfold.{resource_path, tree_at}
use Rattle.wcv_types.specs.declared.ids.Part.TheVariants as p
use Rattle.wcv_matching.specs.OnePass.{imported_in, made_in}
use Rattle.wcv_counterparts.specs.OwnResources.{going, read_as}
use Rattle.wcv_atoms.specs.Readings.{atoms_of, over, reads}
use Rattle.wcv_counterparts.proofs.ComponentIds.{none_made_told, opened_exports, opened_left, right_over}
use Rattle.wcv_counterparts.proofs.own_resources.opened_atoms.Goals as goal

pub returns-then-not-none_made-clause-opened : goal.returns-then-not-none_made-clause-opened
returns-then-not-none_made-clause-opened g c =
    let x = tree_at c.args.types.now (p.Component c.args.a) in
    let y = tree_at c.args.types.now (p.Component c.args.b) in
    let g = reads c.args.right.now in
    let whole = right_over c.args.types.now c.args.b.index c.get-y.result.now y c.get-y.ensures.unfolds c.args.level g (atoms_of c.in_ok-right_atoms.right_atoms.items) c.in_ok-right_atoms.ensures in
    let read = (λ l. over (ap (λ es. atoms_of es) c.deref.ensures.value l) g) ∙ whole in
    sym (none_made_told x y c.args.level g (over (atoms_of c.deref.result.now) g) (atoms_of c.deref-2.result.now) read (ap (λ es. atoms_of es) c.deref-2.ensures.value ∙ c.in_ok-left_atoms.ensures.read)) ∙
    sym c.none_made.ensures ∙ c.if-not-none_made.true

pub returns-clause-opened : goal.returns-clause-opened
returns-clause-opened g c =
    let a = c.args.types.now in
    let x = tree_at c.args.types.now (p.Component c.args.a) in
    let y = tree_at c.args.types.now (p.Component c.args.b) in
    let f = reads c.args.left.now in
    let g = reads c.args.right.now in
    let whole = right_over a c.args.b.index c.get-y.result.now y c.get-y.ensures.unfolds c.args.level g (atoms_of c.in_ok-right_atoms.right_atoms.items) c.in_ok-right_atoms.ensures in
    let read = (λ l. over (ap (λ es. atoms_of es) c.deref.ensures.value l) g) ∙ whole in
    let theirs = opened_left a c.args.a.index c.get-x.result.now x c.get-x.ensures.unfolds y c.args.level f g (over (atoms_of c.deref.result.now) g) (atoms_of c.push_made.new.atoms.items) read
    (c.in_ok-push_made.ensures ∙ (λ l. c.in_ok-left_atoms.ensures.read l ++ read_as (made_in c.args.level) (going (λ r. r) (firsts (map resource_path c.get-x.result.now.defined_resources))))) in
    record {
      none_made = sym (none_made_told x y c.args.level g (over (atoms_of c.deref.result.now) g) (atoms_of c.deref-2.result.now) read (ap (λ es. atoms_of es) c.deref-2.ensures.value ∙ c.in_ok-left_atoms.ensures.read)) ∙
          sym c.none_made.ensures ∙ c.if-not-none_made.false;
      left = theirs;
      right = whole;
      exports = opened_exports a c.args.b.index c.get-y.result.now y c.get-y.ensures.unfolds x c.args.level f g (over (atoms_of c.deref-3.result.now) f) (atoms_of c.in_ok-exports.exports.items)
          ((λ l. over (ap (λ es. atoms_of es) c.deref-3.ensures.value l) f) ∙ theirs) c.in_ok-exports.ensures.read;
    }

pub returns-clause-right : goal.returns-clause-right
returns-clause-right g c = c.in_ok-left_atoms.ensures.stays
