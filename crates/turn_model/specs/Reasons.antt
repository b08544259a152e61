-- The reasons that the broker gives (MQTT 2.4), and the numbers of the rules whose breach the turn finds; those that
-- the reader of packets finds stand with it.
use Rattle.std.specs.Prelude.{ℕ}

abbrev pub success : ℕ
success = 0x00

-- UNSUBACK (MQTT 3.11.3)
abbrev pub no_subscription : ℕ
no_subscription = 0x11

abbrev pub malformed_packet : ℕ
malformed_packet = 0x81

abbrev pub protocol_error : ℕ
protocol_error = 0x82

-- a device failed, or what was asked isn't built
abbrev pub implementation_error : ℕ
implementation_error = 0x83

abbrev pub unsupported_version : ℕ
unsupported_version = 0x84

abbrev pub bad_client_identifier : ℕ
bad_client_identifier = 0x85

abbrev pub server_busy : ℕ
server_busy = 0x89

abbrev pub bad_authentication_method : ℕ
bad_authentication_method = 0x8C

abbrev pub keep_alive_timeout : ℕ
keep_alive_timeout = 0x8D

abbrev pub session_taken_over : ℕ
session_taken_over = 0x8E

abbrev pub bad_filter : ℕ
bad_filter = 0x8F

abbrev pub bad_topic_name : ℕ
bad_topic_name = 0x90

abbrev pub no_packet_identifier : ℕ
no_packet_identifier = 0x92

abbrev pub receive_maximum_exceeded : ℕ
receive_maximum_exceeded = 0x93

abbrev pub bad_topic_alias : ℕ
bad_topic_alias = 0x94

abbrev pub packet_too_large : ℕ
packet_too_large = 0x95

abbrev pub quota_exceeded : ℕ
quota_exceeded = 0x97

abbrev pub no_retained_messages : ℕ
no_retained_messages = 0x9A

abbrev pub no_shared_subscriptions : ℕ
no_shared_subscriptions = 0x9E

-- ---- rules of the protocol

-- the first packet is no CONNECT (MQTT 3.1)
abbrev pub rule_no_connect : ℕ
rule_no_connect = 1

-- a second CONNECT (MQTT 3.1)
abbrev pub rule_second_connect : ℕ
rule_second_connect = 2

-- a packet that only a server sends, or AUTH, which none has asked for (MQTT 3.15)
abbrev pub rule_not_from_client : ℕ
rule_not_from_client = 3

-- an empty topic name without an alias (MQTT 3.3.2.1)
abbrev pub rule_empty_topic : ℕ
rule_empty_topic = 8

-- a Subscription Identifier in a client's PUBLISH (MQTT 3.3.4)
abbrev pub rule_identifier_of_client : ℕ
rule_identifier_of_client = 9

-- PUBACK or PUBREC out of order (MQTT 4.6)
abbrev pub rule_out_of_order : ℕ
rule_out_of_order = 12

-- PUBCOMP of what isn't received (MQTT 4.3.3)
abbrev pub rule_not_received : ℕ
rule_not_received = 13

-- DISCONNECT with an interval where that of the CONNECT is 0 (MQTT 3.14.2.2.2)
abbrev pub rule_interval_from_0 : ℕ
rule_interval_from_0 = 14
