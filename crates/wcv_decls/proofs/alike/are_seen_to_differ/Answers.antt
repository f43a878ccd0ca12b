use Rattle.std.proofs.Common.{ap, subst, not}
use Rattle.wcv_spaces.specs.NameLists.{list_names}
use Rattle.wcv_decls.specs.Numbers.{Ascend}
use Rattle.wcv_decls.proofs.Ascending.{all_different}
use Rattle.wcv_decls.proofs.alike.are_seen_to_differ.Goals as goal

pub returns : goal.returns
returns c =
    λ e. (
      ap not (c.are_labels.ensures c.if-not-are_labels.false),
      (
        all_different (list_names c.args.list) c.in_ok-numbers.numbers.items c.sort_unstable.new.self.items c.in_ok-numbers.ensures c.sort_unstable.ensures.permutation
            (subst Ascend c.deref.ensures.value (c.ascend.ensures e)),
        tt,
      ),
    )
