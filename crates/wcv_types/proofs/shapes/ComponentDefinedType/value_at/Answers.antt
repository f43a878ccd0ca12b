use Rattle.wcv_types.proofs.Knowing.{field_value, case_value}
use Rattle.wcv_types.proofs.shapes.ComponentDefinedType.value_at.Goals as goal

pub returns-in-Record : goal.returns-in-Record
returns-in-Record c = field_value c.args.self.now c.in-Record.fields c.args.k c.index.result.now c.in-Record.is c.requires c.index.ensures

pub returns-in-Variant : goal.returns-in-Variant
returns-in-Variant c = case_value c.args.self.now c.in-Variant.cases c.args.k c.index-in-Variant.result.now c.in-Variant.is c.requires c.index-in-Variant.ensures
