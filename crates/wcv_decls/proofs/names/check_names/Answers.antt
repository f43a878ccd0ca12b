use Rattle.std.proofs.Common.{sym}
use Rattle.wcv_decls.proofs.names.check_names.Goals as goal

pub returns-in-Record-clause-ok : goal.returns-in-Record-clause-ok
returns-in-Record-clause-ok c = rw (c.in-Record.is, sym c.deref.ensures.value) c.check_labels.ensures.ok

pub returns-in-Record-clause-err : goal.returns-in-Record-clause-err
returns-in-Record-clause-err c = rw (c.in-Record.is, sym c.deref.ensures.value) c.check_labels.ensures.err

pub returns-in-Variant-clause-ok : goal.returns-in-Variant-clause-ok
returns-in-Variant-clause-ok c = rw (c.in-Variant.is, sym c.deref-in-Variant.ensures.value) c.check_labels-in-Variant.ensures.ok

pub returns-in-Variant-clause-err : goal.returns-in-Variant-clause-err
returns-in-Variant-clause-err c = rw (c.in-Variant.is, sym c.deref-in-Variant.ensures.value) c.check_labels-in-Variant.ensures.err

pub returns-in-Flags-clause-err : goal.returns-in-Flags-clause-err
returns-in-Flags-clause-err c = rw (c.in-Flags.is, sym c.deref-in-Flags.ensures.value) c.check_labels-in-Flags.ensures.err

pub returns-in-Enum-clause-err : goal.returns-in-Enum-clause-err
returns-in-Enum-clause-err c = rw (c.in-Enum.is, sym c.deref-in-Enum.ensures.value) c.check_labels-in-Enum.ensures.err
