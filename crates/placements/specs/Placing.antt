-- Who holds what: for each placement of n sites and R registers, whether register r is held at site l.
--
--   full_held n R r l             every site holds every register
--   in_row n p a l                is site l one of p sites in a row from site a on, going round the n sites?
--   ring_held n p R r l           register r is held by p sites in a row from site r modulo n on
--   ring_home n p R l r           its home for reader l: the reader itself if it holds r, else site r modulo n
--   listed_held n R sets r l      register r is held by the sites of the set at place r of the table
--   lowest k l f                  the lowest of the k sites from site l on that f names, or l + k if there is none
--   listed_home n R sets l r      its home for reader l: the reader itself if it holds r, else the lowest holder
--   witnessed w n R held r l      the holders that held names, and site w for every register
--   witnessed_home w asked l r    the witness is its own home, another reader l keeps the home that asked names
--
-- Assumes nothing.
use Rattle.std.specs.Prelude.{ℕ, zero, suc, ◌+◌, ◌-◌, ◌%◌, Bool, cond, ◌&&◌, ◌||◌, List, ◌==◌, nat_lt, slice_index}
use Rattle.clocks.specs.Sites.{has}

abbrev pub full_held : ℕ → ℕ → ℕ → ℕ → Bool
full_held n R r l = nat_lt r R && nat_lt l n

abbrev pub in_row : ℕ → ℕ → ℕ → ℕ → Bool
in_row n p a l = nat_lt l n && nat_lt ((l + n - a) % n) p

abbrev pub ring_held : ℕ → ℕ → ℕ → ℕ → ℕ → Bool
ring_held n p R r l = nat_lt r R && in_row n p (r % n) l

abbrev pub ring_home : ℕ → ℕ → ℕ → ℕ → ℕ → ℕ
ring_home n p R l r = cond (ring_held n p R r l) l (r % n)

abbrev pub listed_held : ℕ → ℕ → List ℕ → ℕ → ℕ → Bool
listed_held n R sets r l = nat_lt r R && (nat_lt l n && has (slice_index sets r) l)

unfoldable pub lowest : ℕ → ℕ → (ℕ → Bool) → ℕ
lowest zero l f = l
lowest (suc k) l f = cond (f l) l (lowest k (suc l) f)

abbrev pub listed_home : ℕ → ℕ → List ℕ → ℕ → ℕ → ℕ
listed_home n R sets l r = cond (listed_held n R sets r l) l (lowest n 0 (listed_held n R sets r))

abbrev pub witnessed : ℕ → ℕ → ℕ → (ℕ → ℕ → Bool) → ℕ → ℕ → Bool
witnessed w n R held r l = nat_lt r R && ((nat_lt w n && l == w) || held r l)

abbrev pub witnessed_home : ℕ → (ℕ → ℕ → ℕ) → ℕ → ℕ → ℕ
witnessed_home w asked l r = cond (l == w) l (asked l r)
