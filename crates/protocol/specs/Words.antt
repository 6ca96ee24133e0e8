-- The words of the protocol.
--
--   bound_for p r l         a write of register r is bound for site l: l holds r
--   holders p r             the holders of r, as a number; others p r i those other than site i
--   sound k bytes           these plain bits are those that some value writes
--   plain_bytes k v         the plain bits of a value, as 32 bytes
--   waiting_updates s       the updates that wait, oldest first; waiting_fetches s the fetches
--   ready n applied need    an item's need is nowhere above what was applied
--   caught_up s column      the second gate: applied is nowhere below a reply's column of this site
--   count_here u n i        the sender's count for site i: which of the sender's writes bound for i this is
--   fits p s                n, R and the lengths of the tables are the placement's and the opening's
--   update_ok, fetch_ok, copy_ok   an item or a copy holds no number out of range
--   shows z s               the session's numbers are the site's
--
-- Assumes nothing.
use Rattle.std.specs.Prelude.{ℕ, ◌*◌, Bool, true, false, not, ◌&&◌, List, [], ◌∷◌, length, take, Some, None, Ok, Err, Option, Result, ◌==◌, nat_le, nat_lt, slice_index_or}
use Rattle.fields.specs.Bits.{bytes_by}
use Rattle.clocks.specs.Counts.{limit, within}
use Rattle.clocks.specs.Matrices.{entry}
use Rattle.clocks.specs.Rows.{nowhere_below}
use Rattle.clocks.specs.Sites.{told}
use Rattle.values.specs.Kinds.{Kind, plain, taken}
use Rattle.values.specs.declared.fault.Fault.{Fault}
use Rattle.waiting.specs.declared.items.Replica.{Replica}
use Rattle.waiting.specs.declared.items.WaitingFetch.{WaitingFetch}
use Rattle.waiting.specs.declared.items.WaitingUpdate.{WaitingUpdate}
use Rattle.protocol.specs.States.{Placed, State, Session}

abbrev pub bound_for : Placed → ℕ → ℕ → Bool
bound_for p r l = p.held r l

abbrev pub holders : Placed → ℕ → ℕ
holders p r = told p.sites (p.held r)

abbrev pub others : Placed → ℕ → ℕ → ℕ
others p r i = told p.sites (λ l. p.held r l && not (l == i))

abbrev pub plain_bytes : {V : Type 0} → Kind V → V → List ℕ
plain_bytes k v = bytes_by 32 (plain k v)

abbrev pub same_bytes : List ℕ → List ℕ → Bool
same_bytes [] [] = true
same_bytes [] (y ∷ ys) = false
same_bytes (x ∷ xs) [] = false
same_bytes (x ∷ xs) (y ∷ ys) = x == y && same_bytes xs ys

-- the bytes are the plain bits of the value that was read from them
abbrev pub written_so : {V : Type 0} → Kind V → List ℕ → Result V Fault → Bool
written_so k bytes (Ok v) = same_bytes (plain_bytes k v) bytes
written_so k bytes (Err f) = false

abbrev pub sound : {V : Type 0} → Kind V → List ℕ → Bool
sound k bytes = written_so k bytes (k.read (taken k bytes))

abbrev pub waiting_updates : State → List WaitingUpdate
waiting_updates s = take s.updates_waiting s.updates

abbrev pub waiting_fetches : State → List WaitingFetch
waiting_fetches s = take s.fetches_waiting s.fetches

abbrev pub ready : ℕ → List ℕ → List ℕ → Bool
ready n applied need = nowhere_below n applied need

abbrev pub caught_up : State → List ℕ → Bool
caught_up s column = nowhere_below s.sites s.applied column

abbrev pub count_here : WaitingUpdate → ℕ → ℕ → ℕ
count_here u n i = entry n u.matrix.counts u.sender i

abbrev pub fits : Placed → State → Bool
fits p s =
    (p.sites == s.sites && p.registers == s.registers)
    && (length s.copies == s.registers && (length s.updates == s.update_places && length s.fetches == s.fetch_places))

-- a write or fetch number
abbrev pub number_ok : ℕ → Bool
number_ok x = nat_le 1 x && nat_le x limit

abbrev pub update_ok : {V : Type 0} → Kind V → State → WaitingUpdate → Bool
update_ok k s u =
    (nat_lt u.sender s.sites && nat_lt u.register s.registers)
    && ((number_ok u.number && within (s.sites * s.sites) u.matrix.counts)
    && (sound k u.bits.bytes && nat_lt 0 (count_here u s.sites s.site)))

abbrev pub fetch_ok : State → WaitingFetch → Bool
fetch_ok s f =
    (nat_lt f.reader s.sites && nat_lt f.register s.registers)
    && (number_ok f.number && within s.sites f.column.counts)

abbrev pub label_ok : ℕ → Option (ℕ × ℕ) → Bool
label_ok n None = true
label_ok n (Some l) = nat_lt l.0 n && number_ok l.1

abbrev pub copy_ok : {V : Type 0} → Kind V → State → Replica → Bool
copy_ok k s c = label_ok s.sites c.label && (within (s.sites * s.sites) c.matrix.counts && sound k c.bits.bytes)

-- every item of a list passes a test
abbrev pub every_item : {A : Type 0} → (A → Bool) → List A → Bool
every_item f [] = true
every_item f (x ∷ xs) = f x && every_item f xs

-- no item of a list passes it
abbrev pub no_item : {A : Type 0} → (A → Bool) → List A → Bool
no_item f xs = every_item (λ x. not (f x)) xs

abbrev pub updates_ok : {V : Type 0} → Kind V → State → Bool
updates_ok k s = every_item (update_ok k s) (waiting_updates s)

abbrev pub fetches_ok : State → Bool
fetches_ok s = every_item (fetch_ok s) (waiting_fetches s)

abbrev pub shows : Session → State → Bool
shows z s = z.site == s.site && z.fetched == s.fetched

abbrev pub is_out : Option (ℕ × ℕ) → Bool
is_out None = false
is_out (Some f) = true

-- a copy where a table has none: its numbers are 0
abbrev pub no_copy : Replica
no_copy = record { bits = record { bytes = [] }; matrix = record { counts = [] }; label = None }

abbrev pub copy_of : State → ℕ → Replica
copy_of s r = slice_index_or s.copies r no_copy
