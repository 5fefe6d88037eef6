mod RisingKeys
