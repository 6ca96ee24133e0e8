-- What bytes read as. Each check, in its order, refuses a frame with 17 at its field's first bit.
--
--   check b p r         r if the test holds, else the refusal at bit p
--   onward r f          f of the value in r, or r's refusal
--   from at r           r, with a refusal's place counted from at
--   opened kind bytes   the checks that begin every frame: some byte, the kind, the site count, which it answers
--   update_read k bytes, fetch_read bytes, reply_read k bytes      what a call that takes one kind makes of bytes
--   incoming_read k bytes                                          what a call that takes updates and fetches makes of them
--
-- Assumes nothing.
use Rattle.std.specs.Prelude.{◌≡◌, ℕ, ◌+◌, ◌-◌, ◌*◌, ◌<◌, Bool, true, false, cond, ◌&&◌, List, ◌++◌, length, drop, replicate, Some, None, Ok, Err, Option, Result, ◌==◌, nat_le, nat_lt}
use Rattle.std.specs.List.{AllByRecursion}
use Rattle.fields.specs.Bits.{bits_of}
use Rattle.fields.specs.Fields.{run, field, numbers}
use Rattle.values.specs.Kinds.{Kind}
use Rattle.values.specs.Refusals.{of_frame, counted_from}
use Rattle.values.specs.declared.fault.Fault.{Fault}
use Rattle.frames.specs.Layouts.{bytes_for}
use Rattle.frames.specs.Messages.{update_bits, fetch_bits, reply_bits, update_frame, fetch_frame, reply_frame, update_clean, fetch_clean, reply_clean, UpdateInRange, FetchInRange, ReplyInRange}
use Rattle.frames.specs.declared.message.Update.{Update}
use Rattle.frames.specs.declared.message.Fetch.{Fetch}
use Rattle.frames.specs.declared.message.Reply.{Reply}
use Rattle.frames.specs.declared.incoming.Incoming.{Incoming}
use Rattle.frames.specs.declared.incoming.Incoming.TheVariants.{OfUpdate, OfFetch}

abbrev pub check : {A : Type 0} → Bool → ℕ → Result A Fault → Result A Fault
check true p r = r
check false p r = Err (of_frame p)

abbrev pub onward : {A B : Type 0} → Result A Fault → (A → Result B Fault) → Result B Fault
onward (Ok a) f = f a
onward (Err e) f = Err e

abbrev pub from : {A : Type 0} → ℕ → Result A Fault → Result A Fault
from at (Ok a) = Ok a
from at (Err e) = Err (counted_from at e)

-- a site count is 2 to 8
abbrev pub site_count : ℕ → Bool
site_count n = nat_le 2 n && nat_le n 8

abbrev pub opened : ℕ → List ℕ → Result ℕ Fault
opened kind bytes =
    check (nat_lt 0 (length bytes)) 0
    (check (field (bits_of bytes) 0 4 == kind) 0
    (check (site_count (field (bits_of bytes) 4 4)) 4
    (Ok (field (bits_of bytes) 4 4))))

-- the last byte is filled with zeros behind the first n bits
abbrev pub filled : List ℕ → ℕ → Bool
filled bytes n = field (bits_of bytes) n (8 * length bytes - n) == 0

-- the first n counts of a table of size many
abbrev pub counts_at : List Bool → ℕ → ℕ → ℕ → List ℕ
counts_at B at size n = numbers 24 n (drop at B) ++ replicate (size - n) 0

-- what a value's bits from at on read as
abbrev pub value_at : {V : Type 0} → Kind V → List Bool → ℕ → Result V Fault
value_at k B at = from at (k.read (run B at k.width))

-- the update that bits make once every field is in range
abbrev pub update_of : {V : Type 0} → List Bool → ℕ → V → Update V
update_of B n v = record {
  sites = n;
  sender = field B 8 3;
  register = field B 11 8;
  number = field B 19 24;
  matrix = record { counts = counts_at B 43 64 (n * n) };
  value = v;
}

abbrev pub update_tail : {V : Type 0} → Kind V → List ℕ → List Bool → ℕ → Result (Update V) Fault
update_tail k bytes B n =
    onward (value_at k B (43 + 24 * (n * n))) (λ v.
    check (filled bytes (update_bits k n)) (update_bits k n)
    (Ok (update_of B n v)))

abbrev pub update_rest : {V : Type 0} → Kind V → List ℕ → List Bool → ℕ → Result (Update V) Fault
update_rest k bytes B n =
    check (length bytes == bytes_for (update_bits k n)) 8
    (check (nat_lt (field B 8 3) n) 8
    (check (nat_le 1 (field B 19 24)) 19
    (update_tail k bytes B n)))

abbrev pub update_read : {V : Type 0} → Kind V → List ℕ → Result (Update V) Fault
update_read k bytes = onward (opened 1 bytes) (update_rest k bytes (bits_of bytes))

abbrev pub fetch_of : List Bool → ℕ → Fetch
fetch_of B n = record {
  sites = n;
  reader = field B 8 3;
  home = field B 11 3;
  register = field B 14 8;
  number = field B 22 24;
  column = record { counts = counts_at B 46 8 n };
}

abbrev pub fetch_rest : List ℕ → List Bool → ℕ → Result Fetch Fault
fetch_rest bytes B n =
    check (length bytes == bytes_for (fetch_bits n)) 8
    (check (nat_lt (field B 8 3) n) 8
    (check (nat_lt (field B 11 3) n) 11
    (check (nat_le 1 (field B 22 24)) 22
    (check (filled bytes (fetch_bits n)) (fetch_bits n)
    (Ok (fetch_of B n))))))

abbrev pub fetch_read : List ℕ → Result Fetch Fault
fetch_read bytes = onward (opened 2 bytes) (fetch_rest bytes (bits_of bytes))

-- the label of a reply's copy: written, a write number of at least 1; unwritten, writer and write number 0
abbrev pub label_read : List Bool → Result (Option (ℕ × ℕ)) Fault
label_read B =
    cond (field B 46 1 == 1)
    (check (nat_le 1 (field B 50 24)) 50 (Ok (Some (field B 47 3, field B 50 24))))
    (check (field B 47 3 == 0) 47 (check (field B 50 24 == 0) 50 (Ok None)))

-- home and reader; the writer is a site number too, written or not
abbrev pub ends_read : List Bool → ℕ → Result (ℕ × ℕ) Fault
ends_read B n =
    check (nat_lt (field B 8 3) n) 8
    (check (nat_lt (field B 11 3) n) 11
    (check (nat_lt (field B 47 3) n) 47
    (Ok (field B 8 3, field B 11 3))))

-- label and value of the copy that a reply brings, up to its last bit
abbrev pub copy_read : {V : Type 0} → Kind V → List ℕ → List Bool → ℕ → Result (Option (ℕ × ℕ) × V) Fault
copy_read k bytes B n =
    onward (label_read B) (λ label.
    onward (value_at k B (74 + 24 * (n * n))) (λ v.
    check (filled bytes (reply_bits k n)) (reply_bits k n)
    (Ok (label, v))))

abbrev pub reply_of : {V : Type 0} → List Bool → ℕ → ℕ × ℕ → Option (ℕ × ℕ) × V → Reply V
reply_of B n ends copy = record {
  sites = n;
  home = ends.0;
  reader = ends.1;
  register = field B 14 8;
  number = field B 22 24;
  label = copy.0;
  matrix = record { counts = counts_at B 74 64 (n * n) };
  value = copy.1;
}

abbrev pub reply_rest : {V : Type 0} → Kind V → List ℕ → List Bool → ℕ → Result (Reply V) Fault
reply_rest k bytes B n =
    check (length bytes == bytes_for (reply_bits k n)) 8
    (onward (ends_read B n) (λ ends.
    check (nat_le 1 (field B 22 24)) 22
    (onward (copy_read k bytes B n) (λ copy.
    Ok (reply_of B n ends copy)))))

abbrev pub reply_read : {V : Type 0} → Kind V → List ℕ → Result (Reply V) Fault
reply_read k bytes = onward (opened 3 bytes) (reply_rest k bytes (bits_of bytes))

-- updates and fetches; any other kind is refused at bit 0, as an update is
abbrev pub incoming_read : {V : Type 0} → Kind V → List ℕ → Result (Incoming V) Fault
incoming_read k bytes =
    cond (nat_lt 0 (length bytes) && field (bits_of bytes) 0 4 == 2)
    (onward (fetch_read bytes) (λ m. Ok (OfFetch m)))
    (onward (update_read k bytes) (λ m. Ok (OfUpdate m)))

-- The two theorems. Every frame written reads back as its message.

abbrev pub ReadsBack : {V : Type 0} → Kind V → Type 0
ReadsBack {V} k =
    ((m : Update V) → UpdateInRange m → update_read k (update_frame k m) ≡ Ok (update_clean m))
    × ((m : Fetch) → FetchInRange m → fetch_read (fetch_frame m) ≡ Ok (fetch_clean m))
    × ((m : Reply V) → ReplyInRange m → reply_read k (reply_frame k m) ≡ Ok (reply_clean m))

-- Bytes that are accepted as a message are exactly the frame of that message, which is in range.
abbrev pub AcceptsOnlyFrames : {V : Type 0} → Kind V → Type 0
AcceptsOnlyFrames {V} k =
    ((bytes : List ℕ) (m : Update V) → AllByRecursion (λ b. b < 256) bytes → update_read k bytes ≡ Ok m → (bytes ≡ update_frame k m) × UpdateInRange m × (update_clean m ≡ m))
    × ((bytes : List ℕ) (m : Fetch) → AllByRecursion (λ b. b < 256) bytes → fetch_read bytes ≡ Ok m → (bytes ≡ fetch_frame m) × FetchInRange m × (fetch_clean m ≡ m))
    × ((bytes : List ℕ) (m : Reply V) → AllByRecursion (λ b. b < 256) bytes → reply_read k bytes ≡ Ok m → (bytes ≡ reply_frame k m) × ReplyInRange m × (reply_clean m ≡ m))
