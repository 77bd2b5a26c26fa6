-- A vote on typed codes.
use Rattle.std.specs.Prelude.{◌≡◌, ℕ, List, [], ◌∷◌, Some, None, Ok, Err, Option, Result}
use Rattle.std.specs.Option.{option_map}
use Rattle.kinds.specs.Models.{KindModel}
use Rattle.kinds.specs.Rights.{right_model}
use Rattle.kinds.specs.Triggers.{trigger_model}
use Rattle.votes.specs.Laws.{Answer}
use Rattle.votes.specs.Meanings.{majority, threshold}
use Rattle.fields.specs.declared.forms.KindName.{KindName}
use Rattle.fields.specs.declared.forms.KindName.TheVariants as kind
use Rattle.fields.specs.declared.forms.VoteName.{VoteName}
use Rattle.fields.specs.declared.forms.VoteName.TheVariants.{Majority, Threshold}
use Rattle.answers.specs.declared.forms.Unvoted.{Unvoted}
use Rattle.answers.specs.declared.forms.Unvoted.TheVariants.{NoValue, NoMemory}
use Rattle.answers.specs.declared.forms.Value.{Value}
use Rattle.answers.specs.declared.forms.Value.TheVariants as value
use Rattle.answers.specs.Replies.{Reply}

-- one entry: open, or the value with the code; a code that no value has is told
abbrev pub entry_of : {K : Type 0} → KindModel K → Option ℕ → Result (Option K) ℕ
entry_of m None = Ok None
entry_of m (Some c) = elim (m.value_of c) [ Some v ↦ Ok (Some v) | None ↦ Err c ]

-- the entry in front of others, unless a code has no value; the first such code is told
abbrev pub in_front : {K : Type 0} → Result (Option K) ℕ → Result (List (Option K)) ℕ → Result (List (Option K)) ℕ
in_front (Ok e) (Ok es) = Ok (e ∷ es)
in_front (Ok e) (Err c) = Err c
in_front (Err c) rest = Err c

-- all entries
abbrev pub entries_of : {K : Type 0} → KindModel K → List (Option ℕ) → Result (List (Option K)) ℕ
entries_of m [] = Ok []
entries_of m (c ∷ cs) = in_front (entry_of m c) (entries_of m cs)

-- the meaning of the vote with this name
abbrev pub vote_named : {K : Type 0} → VoteName → KindModel K → Answer K
vote_named Majority m = majority m
vote_named Threshold m = threshold m

-- what the vote answers on these codes, or the first code that no value has
abbrev pub polled : {K : Type 0} → KindModel K → VoteName → ℕ → List (Option ℕ) → Result (Option K) ℕ
polled m v t codes = elim (entries_of m codes) [ Ok entries ↦ Ok (vote_named v m entries t) | Err c ↦ Err c ]

-- the same as a reply, with the answer as a value of its kind
abbrev pub poll_reply : {K : Type 0} → KindName → (K → Value) → Result (Option K) ℕ → Reply
poll_reply k to_value (Ok o) = Reply.vote (option_map to_value o)
poll_reply k to_value (Err c) = Reply.no_value k c

abbrev pub vote_reply : KindName → VoteName → ℕ → List (Option ℕ) → Reply
vote_reply kind.Right v t codes = poll_reply kind.Right value.Right (polled right_model v t codes)
vote_reply kind.Trigger v t codes = poll_reply kind.Trigger value.Trigger (polled trigger_model v t codes)

-- what the program answers is what was wanted, or the same code without a value; only where memory runs out is nothing said
abbrev pub Yields : {A B : Type 0} → (A → B) → Result A Unvoted → Result B ℕ → Type 0
Yields view (Ok a) wanted = Ok (view a) ≡ wanted
Yields view (Err (NoValue c)) wanted = Err c ≡ wanted
Yields view (Err (NoMemory _)) wanted = Unit {0}
