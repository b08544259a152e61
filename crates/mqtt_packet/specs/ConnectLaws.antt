-- CONNECT, read and spelled (MQTT 3.1).
use Rattle.std.proofs.Common.{◌≡◌, ℕ, ◌+◌, ◌*◌, ◌^◌, ◌<◌, ◌≤◌, Bool, true, List, [], ◌++◌, Option, Some, None, refl, sym, ap, subst, ◌∙◌, append_assoc, arith}
use Rattle.std.specs.Prelude.{is_some, codes, ◌==◌}
use Rattle.std.specs.Str.{bytes_eq}
use Rattle.std.proofs.lemmas.Bool.{and_parts, eqb-true}
use Rattle.std.proofs.lemmas.Slice.Eq.{bytes_eq-Decides}
use Rattle.wire_fields.specs.Spelled.{spelled_u8, spelled_u16, spelled_text, spelled_bin}
use Rattle.wire_fields.specs.Computing.{computing}
use Rattle.wire_fields.specs.TextLaws.{is_text_means}
use Rattle.mqtt_props.specs.declared.prop.Prop.{Prop}
use Rattle.mqtt_props.specs.declared.table.Holder.TheVariants as In
use Rattle.mqtt_props.specs.Prop.{IsShortText}
use Rattle.mqtt_props.specs.Props.{in_writing_order, spelled_props}
use Rattle.mqtt_packet.specs.declared.flags.ConnectFlags.{ConnectFlags}
use Rattle.mqtt_packet.specs.declared.packet.Will.{Will}
use Rattle.mqtt_packet.specs.Packet.{PlainPacket, Connect, ConnectFields}
use Rattle.mqtt_packet.specs.Spelling.{bit, will_flags, connect_flags, if_there, spelled_will}
use Rattle.mqtt_packet.specs.Fits.{IfThere, FitsWill, will_arranged}
use Rattle.mqtt_packet.specs.Reading.{flags_in, is_mqtt_5, protocol_at, start_at, connect_in}
use Rattle.mqtt_packet.specs.ReaderLaws.{IsRead, Given, IsField, IsPair, and_then, where_passes, known_then, makes, ends, recast, pair_reads}
use Rattle.mqtt_packet.specs.FlagLaws.{bit_small, will_told, number_of, HasQos, told_is, flags_apart, flags_together}
use Rattle.mqtt_packet.specs.FieldLaws.{sent_list, IsByte, byte_reads, two_reads, name_reads, props_reads}
use Rattle.mqtt_packet.specs.WillLaws.{FitsSpelled, will_reads, login_reads}
use Rattle.mqtt_packet.specs.BodyLaws.{IsSentAs}

-- ---- the protocol, the flags and the keep alive

pub protocol_reads : IsRead (Given (IsPair (IsField IsShortText spelled_text) (IsField IsByte spelled_u8))) protocol_at
protocol_reads = pair_reads name_reads byte_reads

-- `MQTT`, 5, the flags as a number, and the keep alive
abbrev start_of : ℕ → ℕ → List ℕ
start_of number seconds = spelled_text (codes "MQTT") ++ (spelled_u8 5 ++ (spelled_u8 number ++ spelled_u16 seconds))

record IsStart (start : ConnectFlags × ℕ) (field : List ℕ) : Type 0 where
  number : ℕ
  below : number < 2 ^ 8
  known : flags_in number ≡ Some start.0
  seconds : start.1 < 2 ^ 16
  is : field ≡ start_of number start.1

is_5 : (name : List ℕ) (version : ℕ) → is_mqtt_5 name version ≡ true → (name ≡ codes "MQTT") × (version ≡ 5)
is_5 name version e =
    let p = and_parts (bytes_eq name (codes "MQTT")) (version == 5) e in
    ((bytes_eq-Decides name (codes "MQTT")).0 p.0, eqb-true version 5 p.1)

pub mqtt_fits : IsShortText (codes "MQTT")
unfolding computing
mqtt_fits = (omega arith, is_text_means (codes "MQTT") refl)

start_reads : IsRead (Given IsStart) start_at
start_reads =
    recast (and_then _ protocol_reads (λ protocol. where_passes (is_mqtt_5 protocol.0 protocol.1) (
    and_then _ byte_reads (λ flags. known_then (flags_in flags) _ (λ known. and_then _ two_reads (λ seconds.
    makes (λ (rest : List ℕ). ((known, seconds), rest))))))))
    (λ bytes x few g. record {
      value = (codes "MQTT", 5);
      field = spelled_text (codes "MQTT") ++ spelled_u8 5;
      rest = spelled_u8 g.is.number ++ (spelled_u16 x.0.1 ++ x.1);
      is = record {
        first = spelled_text (codes "MQTT");
        second = spelled_u8 5;
        is_first = record { fits = mqtt_fits; is = refl };
        is_second = record { fits = omega arith; is = refl };
        parts = refl;
      };
      parts = g.parts ∙ ap (λ (l : List ℕ). l ++ x.1) g.is.is;
      behind = record {
        passes = refl;
        good = record {
          value = g.is.number;
          field = spelled_u8 g.is.number;
          rest = spelled_u16 x.0.1 ++ x.1;
          is = record { fits = g.is.below; is = refl };
          parts = refl;
          behind = record {
            value = x.0.0;
            is = g.is.known;
            good = record {
              value = x.0.1;
              field = spelled_u16 x.0.1;
              rest = x.1;
              is = record { fits = g.is.seconds; is = refl };
              parts = refl;
              behind = record { is = refl };
            };
          };
        };
      };
    })
    (λ bytes x fits t.
    let flags = t.behind.good in
    let seconds = flags.behind.good in
    let five = is_5 t.value.0 t.value.1 t.behind.passes in
    let first : t.is.first ≡ spelled_text (codes "MQTT") = t.is.is_first.is ∙ ap spelled_text five.0 in
    let second : t.is.second ≡ spelled_u8 5 = t.is.is_second.is ∙ ap spelled_u8 five.1 in
    subst (λ (y : (ConnectFlags × ℕ) × List ℕ). Given IsStart bytes y) seconds.behind.is (record {
      field = start_of flags.value seconds.value;
      is = record { number = flags.value; below = flags.is.fits; known = flags.behind.is; seconds = seconds.is.fits; is = refl };
      parts = t.parts ∙ (λ i. t.is.parts i ++ flags.parts i) ∙ (λ i. (first i ++ second i) ++ (flags.is.is i ++ seconds.parts i))
          ∙ (λ i. (spelled_text (codes "MQTT") ++ spelled_u8 5) ++ (spelled_u8 flags.value ++ (seconds.is.is i ++ seconds.rest)));
    }))

-- ---- the whole

abbrev connect : Bool → ℕ → List Prop → List ℕ → Option Will → Option (List ℕ) → Option (List ℕ) → PlainPacket
connect clean keep_alive props client will user password =
    Connect (record {
      clean = clean;
      keep_alive = keep_alive;
      props = props;
      client = client;
      will = will;
      user = user;
      password = password;
    })

-- the flags of a packet
abbrev flags_of_connect : ConnectFields → ConnectFlags
flags_of_connect c = record { clean = c.clean; will = will_told c.will; password = is_some c.password; user = is_some c.user }

will_has_qos : (will : Option Will) → IfThere FitsWill will → HasQos (will_told will)
will_has_qos None fits = tt
will_has_qos (Some will) fits = fits.qos

will_spelled : (will : Option Will) → IfThere FitsWill will → IfThere FitsSpelled will
will_spelled None fits = tt
will_spelled (Some will) fits = record { props = fits.props; topic = fits.topic; payload = fits.payload }

will_fits : (will : Option Will) → HasQos (will_told will) → IfThere FitsSpelled will → IfThere FitsWill will
will_fits None has fits = tt
will_fits (Some will) has fits = record { qos = has; props = fits.props; topic = fits.topic; payload = fits.payload }

number_is : (c : ConnectFields) → number_of (flags_of_connect c) ≡ connect_flags c
number_is c = ap (λ (n : ℕ). 2 * bit c.clean + n + 64 * bit (is_some c.password) + 128 * bit (is_some c.user)) (told_is c.will)

will_number_small : (will : Option Will) → IfThere FitsWill will → will_flags will ≤ 52
will_number_small None fits = omega arith
will_number_small (Some will) fits = omega (arith, fits.qos, bit_small will.retain)

number_small : (c : ConnectFields) → IfThere FitsWill c.will → connect_flags c < 2 ^ 8
number_small c fits =
    omega (arith, will_number_small c.will fits, bit_small c.clean, bit_small (is_some c.password), bit_small (is_some c.user))

flags_known : (c : ConnectFields) → IfThere FitsWill c.will → flags_in (connect_flags c) ≡ Some (flags_of_connect c)
flags_known c fits =
    ap flags_in (sym (number_is c))
    ∙ flags_apart c.clean (will_told c.will) (is_some c.password) (is_some c.user) (will_has_qos c.will fits)

pub connect_reads : IsRead (IsSentAs Connect) connect_in
connect_reads =
    recast (and_then _ start_reads (λ start. and_then _ (props_reads In.Connect) (λ props. and_then _ name_reads (λ client.
    and_then _ (will_reads start.0.will) (λ will. and_then _ (login_reads start.0) (λ login.
    ends (connect start.0.clean start.1 props client will login.0 login.1)))))))
    (λ body packet few s.
    let c : ConnectFields = s.sent in
    let user : List ℕ = if_there spelled_text c.user in
    let password : List ℕ = if_there spelled_bin c.password in
    record {
      value = (flags_of_connect c, c.keep_alive);
      field = start_of (connect_flags c) c.keep_alive;
      rest = spelled_props c.props ++ (spelled_text c.client ++ (spelled_will c.will ++ (user ++ (password ++ []))));
      is = record {
        number = connect_flags c;
        below = number_small c s.fits.will;
        known = flags_known c s.fits.will;
        seconds = s.fits.keep_alive;
        is = refl;
      };
      parts = s.form;
      behind = record {
        value = in_writing_order c.props;
        field = spelled_props c.props;
        rest = spelled_text c.client ++ (spelled_will c.will ++ (user ++ (password ++ [])));
        is = sent_list c.props s.fits.props;
        parts = refl;
        behind = record {
          value = c.client;
          field = spelled_text c.client;
          rest = spelled_will c.will ++ (user ++ (password ++ []));
          is = record { fits = s.fits.client; is = refl };
          parts = refl;
          behind = record {
            value = will_arranged c.will;
            field = spelled_will c.will;
            rest = user ++ (password ++ []);
            is = record { sent = c.will; is_told = refl; fits = will_spelled c.will s.fits.will; same = refl; is = refl };
            parts = refl;
            behind = record {
              value = (c.user, c.password);
              field = user ++ password;
              rest = [];
              is = record {
                first = user;
                second = password;
                is_first = record { is_told = refl; fits = s.fits.user; is = refl };
                is_second = record { is_told = refl; fits = s.fits.password; is = refl };
                parts = refl;
              };
              parts = sym (append_assoc user password []);
              behind = record { none = refl; is = s.same };
            };
          };
        };
      };
    })
    (λ body packet fits t.
    let flags : ConnectFlags = t.value.0 in
    let props = t.behind in
    let client = props.behind in
    let will = client.behind in
    let login = will.behind in
    let together = flags_together t.is.number flags t.is.below t.is.known in
    let sent : ConnectFields = record {
      clean = flags.clean;
      keep_alive = t.value.1;
      props = props.is.sent;
      client = client.value;
      will = will.is.sent;
      user = login.value.0;
      password = login.value.1;
    } in
    let told : flags_of_connect sent ≡ flags =
    (λ i. record {
      clean = flags.clean;
      will = will.is.is_told i;
      password = login.is.is_second.is_told i;
      user = login.is.is_first.is_told i;
    }) in
    let number : t.is.number ≡ connect_flags sent = sym together.0 ∙ ap number_of (sym told) ∙ number_is sent in
    let user : List ℕ = if_there spelled_text sent.user in
    let password : List ℕ = if_there spelled_bin sent.password in
    let front : List ℕ → List ℕ =
    λ l. start_of (connect_flags sent) sent.keep_alive ++ (spelled_props sent.props ++ (spelled_text sent.client ++ l)) in
    record {
      sent = sent;
      fits = record {
        keep_alive = t.is.seconds;
        props = props.is.list.fits;
        client = client.is.fits;
        will = will_fits will.is.sent (subst HasQos (sym will.is.is_told) together.1) will.is.fits;
        user = login.is.is_first.fits;
        password = login.is.is_second.fits;
      };
      same = (λ i. connect flags.clean sent.keep_alive (props.is.list.ordered i) sent.client (will.is.same i) sent.user sent.password)
          ∙ login.behind.is;
      form = t.parts ∙ (λ i. t.is.is i ++ props.parts i)
          ∙ (λ i. start_of (number i) sent.keep_alive ++ (props.is.is i ++ client.parts i))
          ∙ (λ i. start_of (connect_flags sent) sent.keep_alive ++ (spelled_props sent.props ++ (client.is.is i ++ will.parts i)))
          ∙ (λ i. front (will.is.is i ++ login.parts i))
          ∙ (λ i. front (spelled_will sent.will ++ (login.is.parts i ++ login.behind.none i)))
          ∙ (λ i. front (spelled_will sent.will ++ ((login.is.is_first.is i ++ login.is.is_second.is i) ++ [])))
          ∙ ap (λ (l : List ℕ). front (spelled_will sent.will ++ l)) (append_assoc user password []);
    })
