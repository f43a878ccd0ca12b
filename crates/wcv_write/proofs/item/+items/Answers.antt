use Rattle.wcv_write.proofs.Views.{section_view-CoreType, section_view-CoreModule, section_view-CoreInstance, section_view-Instance}
use Rattle.wcv_write.proofs.item.+items.Goals as goal

pub write_section-returns-in-CoreType : goal.write_section-returns-in-CoreType
write_section-returns-in-CoreType g t c = rw (c.in-CoreType.is, section_view-CoreType c.in-CoreType.ty) c.write_at.ensures

pub write_section-returns-in-CoreModule : goal.write_section-returns-in-CoreModule
write_section-returns-in-CoreModule g t c = rw (c.in-CoreModule.is, section_view-CoreModule c.in-CoreModule.decls) (rw c.deref.ensures.value at c.write_module_at.ensures)

pub write_section-returns-in-CoreInstance : goal.write_section-returns-in-CoreInstance
write_section-returns-in-CoreInstance g t c = rw (c.in-CoreInstance.is, section_view-CoreInstance c.in-CoreInstance.instance) c.write_at-in-CoreInstance.ensures

pub write_section-returns-in-Instance : goal.write_section-returns-in-Instance
write_section-returns-in-Instance g t c = rw (c.in-Instance.is, section_view-Instance c.in-Instance.instance) c.write_at-in-Instance.ensures
