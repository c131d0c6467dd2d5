-- The addresses of a host, removed and added.
use Rattle.std.proofs.Common.{◌≡◌, ◌+◌, ◌<◌, length, get_or, take, ℕ, ℤ, List, [], ◌∷◌, ◌++◌, sym, ap, subst, ◌∙◌, refl, append_assoc, int_eq}
use Rattle.sqlobjects.proofs.Words.{address_with_host, addresses, addresses_of, addresses_to, append-nil, AreAddressesAdded, AreAddressesPut}
use Rattle.sqlobjects.proofs.Words.{AreOtherAddressesKept}
use Rattle.sqlobjects.proofs.Words.{Content, Decides-int_eq, delete_where, filter, map-append, next_key, same_int, take_more, texts_of}
use Rattle.sqlobjects.proofs.PutLemmas.{filter-append, filter-append_pass, filter-delete, filter-deleted}
use Rattle.sqlrows.specs.inner.Layouts.{appended}
use Rattle.sqltables.specs.declared.address.AddressRow.{AddressRow}

pub cleared : (id : ℤ) (xs : Content) → AreAddressesPut id [] xs (addresses_to (delete_where (address_with_host id)) xs)
cleared id xs = record {
  here = ap texts_of (filter-deleted (address_with_host id) (address_with_host id) xs.addresses (λ a h e. e));
  others = record {
    hosts = λ other apart. ap texts_of (filter-delete (address_with_host other) (address_with_host id) xs.addresses (λ a h is. ap (λ k. int_eq k other) (same_int a.host id is) ∙ apart));
    rest = refl;
  };
}

pub one-added : (id : ℤ) (text : List ℕ) (xs : Content) (row : AddressRow) → row.host ≡ id → row.address ≡ text
    → AreAddressesAdded id (text ∷ []) xs (addresses_to (appended addresses (λ k. record row { id = k })) xs)
one-added id text xs row host address =
    let new : AddressRow = record row { id = next_key addresses.key xs.addresses } in
    record {
      here =
          ap texts_of (filter-append_pass (address_with_host id) xs.addresses new ((Decides-int_eq row.host id).1 host))
          ∙ map-append (λ (a : AddressRow). a.address) (filter (address_with_host id) xs.addresses) (new ∷ [])
          ∙ ap (λ t. addresses_of xs id ++ t ∷ []) address;
      others = record {
        hosts = λ other apart. ap texts_of (filter-append (address_with_host other) xs.addresses new (ap (λ k. int_eq k other) host ∙ apart));
        rest = refl;
      };
    }

pub none-added : (id : ℤ) (xs : Content) → AreAddressesAdded id [] xs xs
none-added id xs = record { here = sym (append-nil (addresses_of xs id)); others = record { hosts = λ other apart. refl; rest = refl } }

then-kept : (id : ℤ) (a b c : Content) → AreOtherAddressesKept id a b → AreOtherAddressesKept id b c → AreOtherAddressesKept id a c
then-kept id a b c one two = record {
  hosts = λ other apart. two.hosts other apart ∙ one.hosts other apart;
  rest = two.rest ∙ ap (λ (x : Content). record x { addresses = c.addresses }) one.rest;
}

more-added : (id : ℤ) (ts us : List (List ℕ)) (a b c : Content) → AreAddressesAdded id ts a b → AreAddressesAdded id us b c → AreAddressesAdded id (ts ++ us) a c
more-added id ts us a b c one two = record {
  here = two.here ∙ ap (λ l. l ++ us) one.here ∙ append_assoc (addresses_of a id) ts us;
  others = then-kept id a b c one.others two.others;
}

-- the next of some
pub next-added : (id : ℤ) (ts : List (List ℕ)) (i : ℕ) (t : List ℕ) (a b c : Content) → i < length ts → t ≡ get_or ts i t → AreAddressesAdded id (take i ts) a b → AreAddressesAdded id (t ∷ []) b c
    → AreAddressesAdded id (take (i + 1) ts) a c
next-added id ts i t a b c within is one two =
    subst (λ l. AreAddressesAdded id l a c) (ap (λ x. take i ts ++ x ∷ []) is ∙ sym (take_more ts i t within)) (more-added id (take i ts) (t ∷ []) a b c one two)

-- those that were added to none
pub added-put : (id : ℤ) (ts : List (List ℕ)) (a b : Content) → addresses_of a id ≡ [] → AreAddressesAdded id ts a b → AreAddressesPut id ts a b
added-put id ts a b none add = record { here = add.here ∙ ap (λ l. l ++ ts) none; others = add.others }

-- those that were added after all were removed
pub addresses-put : (id number : ℤ) (ts : List (List ℕ)) (a b c : Content) → number ≡ id → AreAddressesPut number [] a b → AreAddressesAdded id ts b c → AreAddressesPut id ts a c
addresses-put id number ts a b c same clear add =
    let one : AreAddressesPut id [] a b = subst (λ k. AreAddressesPut k [] a b) same clear in
    record { here = add.here ∙ ap (λ l. l ++ ts) one.here; others = then-kept id a b c one.others add.others }

-- those that were there
pub already-put : (id : ℤ) (ts : List (List ℕ)) (a : Content) → addresses_of a id ≡ ts → AreAddressesPut id ts a a
already-put id ts a is = record { here = is; others = record { hosts = λ other apart. refl; rest = refl } }
