-- The next nets of the steps, each in the rule's own words.
use Rattle.std.specs.Prelude.{ℕ, ◌+◌, ◌-◌, ◌*◌, ◌/◌, ◌<◌, Bool, cond, ◌⊎◌, ◌==◌}
use Rattle.std.proofs.Common.{inl, inr}
use Rattle.theory.specs.Nets.{Net}

-- The transitions of which `D` holds are dropped.
abbrev pub without : (N : Net) → (N.Trans → Type 0) → Net
without N D =
    record {
      Trans = (t : N.Trans) × (D t → ⊥);
      take = λ t. N.take t.0;
      put = λ t. N.put t.0;
      start = N.start;
    }

-- A function with 0 at `p`.
abbrev pub off : ℕ → (ℕ → ℕ) → ℕ → ℕ
off p f q = cond (q == p) 0 (f q)

-- The place `p` goes: its mark and weights become 0.
abbrev pub gone : ℕ → Net → Net
gone p N =
    record {
      Trans = N.Trans;
      take = λ t. off p (N.take t);
      put = λ t. off p (N.put t);
      start = off p N.start;
    }

-- A feeder of `p` puts into it, a consumer takes from it.
abbrev pub Feeder : (N : Net) → ℕ → N.Trans → Type 0
Feeder N p t = 0 < N.put t p

abbrev pub Consumer : (N : Net) → ℕ → N.Trans → Type 0
Consumer N p t = 0 < N.take t p

-- Agglomeration keeps the transitions that do not touch `p`, and has a new one for each feeder and consumer.
abbrev pub Untouched : (N : Net) → ℕ → Type 0
Untouched N p = (t : N.Trans) × (Feeder N p t → ⊥) × (Consumer N p t → ⊥)

abbrev pub Product : (N : Net) → ℕ → Type 0
Product N p = (h : N.Trans) × (f : N.Trans) × Feeder N p h × Consumer N p f

abbrev pub Merged : (N : Net) → ℕ → Type 0
Merged N p = Untouched N p ⊎ Product N p

abbrev pub post_take : (N : Net) (p : ℕ) → Merged N p → ℕ → ℕ
post_take N p (inl t) q = N.take t.0 q
post_take N p (inr x) q = N.take x.0 q

abbrev pub post_put : (N : Net) (p : ℕ) → Merged N p → ℕ → ℕ
post_put N p (inl t) q = N.put t.0 q
post_put N p (inr x) q = off p (N.put x.0) q + (N.put x.0 p / N.take x.1 p) * N.put x.1 q

-- The next net of post-agglomeration. Under its conditions all numbers at `p` are 0 here: `p` is gone.
abbrev pub post : (N : Net) → ℕ → Net
post N p =
    record {
      Trans = Merged N p;
      take = post_take N p;
      put = post_put N p;
      start = N.start;
    }

-- Pre-agglomeration: the new takes are the feeder's and the consumer's outside `p`, the new puts the consumer's.
abbrev pub pre_take : (N : Net) (p : ℕ) → Merged N p → ℕ → ℕ
pre_take N p (inl t) q = N.take t.0 q
pre_take N p (inr x) q = N.take x.0 q + off p (N.take x.1) q

abbrev pub pre_put : (N : Net) (p : ℕ) → Merged N p → ℕ → ℕ
pre_put N p (inl t) q = N.put t.0 q
pre_put N p (inr x) q = N.put x.1 q

-- The next net of pre-agglomeration. Under its conditions all numbers at `p` are 0 here: `p` is gone.
abbrev pub pre : (N : Net) → ℕ → Net
pre N p =
    record {
      Trans = Merged N p;
      take = pre_take N p;
      put = pre_put N p;
      start = N.start;
    }

-- The start marking becomes that after `k` firings of `t`.
abbrev pub fired : (N : Net) → N.Trans → ℕ → Net
fired N t k =
    record {
      Trans = N.Trans;
      take = N.take;
      put = N.put;
      start = λ p. (N.start p - k * N.take t p) + k * N.put t p;
    }

-- A function with its number at `q` moved to `p`.
abbrev pub fuse : ℕ → ℕ → (ℕ → ℕ) → ℕ → ℕ
fuse p q f r = cond (r == p) (f p + f q) (off q f r)

-- Weights and mark of `q` are added to those of `p`, and `q` goes.
abbrev pub fused : ℕ → ℕ → Net → Net
fused p q N =
    record {
      Trans = N.Trans;
      take = λ t. fuse p q (N.take t);
      put = λ t. fuse p q (N.put t);
      start = fuse p q N.start;
    }

-- A function with 0 outside the places of which `z` is true.
abbrev pub inside : (ℕ → Bool) → (ℕ → ℕ) → ℕ → ℕ
inside z f q = cond (z q) (f q) 0

-- The places outside go.
abbrev pub limited : (ℕ → Bool) → Net → Net
limited z N =
    record {
      Trans = N.Trans;
      take = λ t. inside z (N.take t);
      put = λ t. inside z (N.put t);
      start = inside z N.start;
    }
