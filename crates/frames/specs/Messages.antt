-- The three frames, as tables of fields.
--
--   update_fields m, fetch_fields m, reply_fields m   the fields before the counts, in their order: width and number
--   update_frame k m, fetch_frame m, reply_frame k m  the bytes of a message's frame
--   update_bits k n, fetch_bits n, reply_bits k n     how many bits it has before the filling
--   carried n m                                       the counts of a matrix that travel
--   trimmed n size counts                             size counts, of which the first n are those given and the rest 0
--   update_clean m, ...                               the message with only the counts that travel
--   UpdateInRange m, ...                              a message whose numbers are in their ranges
--
-- Assumes nothing.
use Rattle.std.specs.Prelude.{ℕ, ◌+◌, ◌-◌, ◌*◌, ◌^◌, ◌<◌, ◌≤◌, List, [], ◌∷◌, ◌++◌, length, take, replicate, Some, None, Option}
use Rattle.std.specs.List.{AllByRecursion}
use Rattle.values.specs.Kinds.{Kind}
use Rattle.frames.specs.Layouts.{Fields, framed}
use Rattle.frames.specs.declared.message.Update.{Update}
use Rattle.frames.specs.declared.message.Fetch.{Fetch}
use Rattle.frames.specs.declared.message.Reply.{Reply}

-- kind 1, site count, sender, register, write number
abbrev pub update_fields : {V : Type 0} → Update V → Fields
update_fields m = (4, 1) ∷ (4, m.sites) ∷ (3, m.sender) ∷ (8, m.register) ∷ (24, m.number) ∷ []

-- kind 2, site count, reader, home, register, fetch number
abbrev pub fetch_fields : Fetch → Fields
fetch_fields m = (4, 2) ∷ (4, m.sites) ∷ (3, m.reader) ∷ (3, m.home) ∷ (8, m.register) ∷ (24, m.number) ∷ []

-- a label's fields: written, writer, write number; all 0 without a label
abbrev pub written : Option (ℕ × ℕ) → ℕ
written None = 0
written (Some l) = 1

abbrev pub writer : Option (ℕ × ℕ) → ℕ
writer None = 0
writer (Some l) = l.0

abbrev pub write_number : Option (ℕ × ℕ) → ℕ
write_number None = 0
write_number (Some l) = l.1

-- kind 3, site count, home, reader, register, fetch number, written, writer, write number
abbrev pub reply_fields : {V : Type 0} → Reply V → Fields
reply_fields m =
    (4, 3) ∷ (4, m.sites) ∷ (3, m.home) ∷ (3, m.reader) ∷ (8, m.register) ∷ (24, m.number)
    ∷ (1, written m.label) ∷ (3, writer m.label) ∷ (24, write_number m.label) ∷ []

abbrev pub carried : ℕ → List ℕ → List ℕ
carried n counts = take (n * n) counts

abbrev pub update_bits : {V : Type 0} → Kind V → ℕ → ℕ
update_bits k n = 43 + 24 * (n * n) + k.width

abbrev pub fetch_bits : ℕ → ℕ
fetch_bits n = 46 + 24 * n

abbrev pub reply_bits : {V : Type 0} → Kind V → ℕ → ℕ
reply_bits k n = 74 + 24 * (n * n) + k.width

unfoldable pub update_frame : {V : Type 0} → Kind V → Update V → List ℕ
update_frame k m = framed (update_fields m) (carried m.sites m.matrix.counts) (k.bits m.value)

unfoldable pub fetch_frame : Fetch → List ℕ
fetch_frame m = framed (fetch_fields m) (take m.sites m.column.counts) []

unfoldable pub reply_frame : {V : Type 0} → Kind V → Reply V → List ℕ
reply_frame k m = framed (reply_fields m) (carried m.sites m.matrix.counts) (k.bits m.value)

-- What reading a frame makes of a message: the counts that do not travel are 0.

abbrev pub trimmed : ℕ → ℕ → List ℕ → List ℕ
trimmed size n counts = take n counts ++ replicate (size - n) 0

abbrev pub update_clean : {V : Type 0} → Update V → Update V
update_clean m = record {
  sites = m.sites;
  sender = m.sender;
  register = m.register;
  number = m.number;
  matrix = record { counts = trimmed 64 (m.sites * m.sites) m.matrix.counts };
  value = m.value;
}

abbrev pub fetch_clean : Fetch → Fetch
fetch_clean m = record {
  sites = m.sites;
  reader = m.reader;
  home = m.home;
  register = m.register;
  number = m.number;
  column = record { counts = trimmed 8 m.sites m.column.counts };
}

abbrev pub reply_clean : {V : Type 0} → Reply V → Reply V
reply_clean m = record {
  sites = m.sites;
  home = m.home;
  reader = m.reader;
  register = m.register;
  number = m.number;
  label = m.label;
  matrix = record { counts = trimmed 64 (m.sites * m.sites) m.matrix.counts };
  value = m.value;
}

-- Ranges.

-- a number of 24 bits that counts from 1
abbrev pub Number : ℕ → Type 0
Number x = (1 ≤ x) × (x < 2 ^ 24)

-- n counts at least, the first n of 24 bits each
abbrev pub Counts : ℕ → List ℕ → Type 0
Counts n counts = (n ≤ length counts) × AllByRecursion (λ c. c < 2 ^ 24) (take n counts)

-- no label, or a site and a number
abbrev pub Label : ℕ → Option (ℕ × ℕ) → Type 0
Label n None = Unit {0}
Label n (Some l) = (l.0 < n) × Number l.1

pub record UpdateInRange {V : Type 0} (m : Update V) : Type 0 where
  pub sites : (2 ≤ m.sites) × (m.sites ≤ 8)
  pub sender : m.sender < m.sites
  pub register : m.register < 2 ^ 8
  pub number : Number m.number
  pub matrix : Counts (m.sites * m.sites) m.matrix.counts

pub record FetchInRange (m : Fetch) : Type 0 where
  pub sites : (2 ≤ m.sites) × (m.sites ≤ 8)
  pub reader : m.reader < m.sites
  pub home : m.home < m.sites
  pub register : m.register < 2 ^ 8
  pub number : Number m.number
  pub column : Counts m.sites m.column.counts

pub record ReplyInRange {V : Type 0} (m : Reply V) : Type 0 where
  pub sites : (2 ≤ m.sites) × (m.sites ≤ 8)
  pub home : m.home < m.sites
  pub reader : m.reader < m.sites
  pub register : m.register < 2 ^ 8
  pub number : Number m.number
  pub label : Label m.sites m.label
  pub matrix : Counts (m.sites * m.sites) m.matrix.counts
