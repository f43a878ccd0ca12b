use Rattle.wcv_types.proofs.FreeRenamed.{free-renamed, free-renamed_back}
use Rattle.wcv_types.proofs.renaming_keeps_what_is_free.Goals as goal

pub returns : goal.returns
returns c = record { to = λ f back g r t. free-renamed f back g (λ i. Unit {0}) r t; back = λ f back g q t. free-renamed_back f back g (λ i. Unit {0}) q t }
