-- The rows of canonical functions as the code has them.
use Rattle.std.specs.Prelude.{[], ◌∷◌, List, Bool, true, false, Option, Some, None}
use Rattle.wcv_syntax.specs.Model.{Canon_form}
use Rattle.wcv_syntax.specs.Model as form
use Rattle.wcv_syntax.specs.declared.canonical.CanonicalOption.{CanonicalOption}
use Rattle.wcv_flat.specs.Rows as row
use Rattle.wcv_flat.specs.Rows.{Option_name, realloc_option, post_return_option, async_option, callback_option, memory_option}
use Rattle.wcv_flat.specs.declared.canon_rows.Appends.{Appends}
use Rattle.wcv_flat.specs.declared.canon_rows.Appends.TheVariants as appends
use Rattle.wcv_flat.specs.declared.canon_rows.Ask.{Ask}
use Rattle.wcv_flat.specs.declared.canon_rows.Ask.TheVariants as ask
use Rattle.wcv_flat.specs.declared.canon_rows.Barred.{Barred}
use Rattle.wcv_flat.specs.declared.canon_rows.Barred.TheVariants as bars
use Rattle.wcv_flat.specs.declared.canon_rows.CarrierSort.{CarrierSort}
use Rattle.wcv_flat.specs.declared.canon_rows.CarrierSort.TheVariants as carrier
use Rattle.wcv_flat.specs.declared.canon_rows.Needed.{Needed}
use Rattle.wcv_flat.specs.declared.canon_rows.Needed.TheVariants as needs
use Rattle.wcv_flat.specs.declared.canon_rows.OptionName.{OptionName}
use Rattle.wcv_flat.specs.declared.canon_rows.OptionName.TheVariants as name
use Rattle.wcv_flat.specs.declared.canon_rows.Row.{Row}
use Rattle.wcv_flat.specs.declared.canon_rows.Word.{Word}
use Rattle.wcv_flat.specs.declared.canon_rows.Word.TheVariants as word

-- ## Options

abbrev pub name_of : OptionName → Option_name
name_of name.Memory = memory_option
name_of name.Realloc = realloc_option
name_of name.PostReturn = post_return_option
name_of name.Async = async_option
name_of name.Callback = callback_option

abbrev pub barred : Barred → List Option_name
barred bars.OfLifting = post_return_option ∷ callback_option ∷ []
barred bars.Waiting = async_option ∷ post_return_option ∷ callback_option ∷ []
barred bars.Returning = realloc_option ∷ async_option ∷ post_return_option ∷ callback_option ∷ []

-- ## What is asked

abbrev pub carrier_sort : CarrierSort → row.Carrier_sort
carrier_sort carrier.Stream = row.of_stream
carrier_sort carrier.Future = row.of_future

abbrev pub needed : Needed → row.Needed
needed needs.InAnyCase = row.in_any_case
needed (needs.WithPayload k t) = row.with_payload (carrier_sort k) t
needed (needs.WithPointer k t) = row.with_pointer (carrier_sort k) t

-- over the options that stand
abbrev pub ask_of : List CanonicalOption → Ask → row.Ask
ask_of os (ask.Feature f) = row.feature f.0
ask_of os (ask.MoreWhere b) = row.more_where b
ask_of os ask.MoreWithoutAsync = row.more_without_async os
ask_of os (ask.Bars b) = row.bars (barred b) os
ask_of os (ask.Needs n w) = row.has_to_stand (name_of n) (needed w) os
ask_of os (ask.AsyncFunc k) = row.async_func k os
ask_of os (ask.Resource k) = row.resource_at k
ask_of os (ask.LocalResource k) = row.local_resource_at k
ask_of os (ask.Stream k) = row.stream_at k
ask_of os (ask.Future k) = row.future_at k
ask_of os (ask.Memory k) = row.memory_at k
ask_of os (ask.NoBorrow r) = row.no_borrow r
ask_of os (ask.Slot v n) = row.slot_of v n
ask_of os (ask.SpawnType k) = row.spawn_type_at k
ask_of os (ask.StartType k) = row.start_type_at k
ask_of os (ask.SpawnTable k) = row.spawn_table_at k
ask_of os (ask.StartTable k) = row.start_table_at k

-- ## What is appended

abbrev pub word_of : Word → row.Word
word_of (word.Type v) = row.word v
word_of word.Pointer = row.pointer_word
word_of word.Rep = row.rep_word
word_of word.Element = row.element_word
word_of word.Start = row.start_word
word_of word.Spawned = row.spawned_word

-- those of a list that are there, each as it is seen
abbrev pub there : {A B : Type 0} → (A → B) → List (Option A) → List B
there f [] = []
there f (None ∷ os) = there f os
there f (Some x ∷ os) = f x ∷ there f os

abbrev pub appends_of : Appends → row.Appends
appends_of (appends.Core ps rs) = row.core_func (there word_of ps) (there word_of rs)
appends_of (appends.Shared ps rs) = row.shared_func (there word_of ps) (there word_of rs)
appends_of (appends.Lowered k) = row.lowered k
appends_of (appends.Returning r) = row.returning r

-- ## Rows

-- over the options that stand
abbrev pub row_view : List CanonicalOption → Row → row.Row
row_view os r = record { asks = there (ask_of os) r.asks; appends = appends_of r.appends }

abbrev pub is_lift : Canon_form → Bool
is_lift (form.lift f t os) = true
is_lift f = false
