use Rattle.wcv_encode.proofs.AgainNumbers.{u32_again, u64_again, s33_again}
use Rattle.wcv_encode.proofs.AgainLists.{text_again}
use Rattle.wcv_encode.proofs.laws.numbers_and_texts_are_read_again.Goals as goal

pub returns-clause-u32 : goal.returns-clause-u32
returns-clause-u32 _ = u32_again

pub returns-clause-u64 : goal.returns-clause-u64
returns-clause-u64 _ = u64_again

pub returns-clause-s33 : goal.returns-clause-s33
returns-clause-s33 _ = s33_again

pub returns-clause-text : goal.returns-clause-text
returns-clause-text _ = text_again
